-- What is meant: the sums over the rows of two files, as their loops make them.
pub mod Sums
-- The tables of the net positions and of the flows while they are gathered.
pub mod Gather
-- A loop that adds up.
pub mod Loops
