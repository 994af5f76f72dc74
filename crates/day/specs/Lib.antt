-- What is meant: the day file's parts, its counts, and its stages, refusals 1 to 4.
pub mod Day
-- The same stages from each section on, as the readers hand on what is left of the file.
pub mod Chain
-- What a day file that reads without fault guarantees, and what the reader's two answers mean.
pub mod Good
-- Its frame alone: counts, limits, room for all rows, nothing after them.
pub mod Frame
-- Which field a refusal 3 names, as a sentence.
pub mod Fields
