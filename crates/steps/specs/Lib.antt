-- What is meant: a step in which nothing is in doubt, and what the steps have brought to the net positions and to the sums.
pub mod Sure
-- The laws by which a step is counted.
pub mod Count
-- The heads of the rows that a day allows.
pub mod Known
