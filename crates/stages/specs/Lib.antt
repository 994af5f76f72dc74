-- The rule paper's numbers of what is broken.
pub mod Number
-- The first row at which a test fails.
pub mod First
-- The first cell of a table at which a test fails, row by row.
pub mod Table
-- A list of stages, each a number with its places and its test: the first fault, and what an answer means.
pub mod Stage
-- Which numbers a list of stages refuses with, and lists whose stages have their turns in order.
pub mod Lists
-- A place and a refusal as they are printed.
pub mod Text
