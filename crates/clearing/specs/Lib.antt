-- What is meant: the clearing file's parts and its stages, refusals 5 to 8, and both files read together.
pub mod Clearing
-- The same stages from each section on, as the readers hand on what is left of the file.
pub mod Chain
-- What two files that read without fault guarantee, and what the reader's two answers mean.
pub mod Good
-- Its frame alone: the counts that are asked, room for all rows, nothing after them.
pub mod Frame
-- Which row a refusal 7 names, as a sentence.
pub mod Fields
