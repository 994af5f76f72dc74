-- What is meant: the bytes of a statement.
pub mod Statement
-- What follows: its length, what stores one after the other leave, and what is read back from it.
pub mod Laws
-- The rows of the net positions of two files.
pub mod Of
