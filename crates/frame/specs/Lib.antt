-- What is meant: two files whose sections are opened.
pub mod Opened
-- The same from each section on, as the functions hand on what is left of a file.
pub mod Chain
