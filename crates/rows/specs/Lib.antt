-- What is meant: the rows of both files' sections, their fields and their rules.
pub mod Rows
-- A row of lines or of blocks: its first fields, and then those of the periods.
pub mod Laws
-- What a row that obeys its rule guarantees, as sentences.
pub mod Sentences
