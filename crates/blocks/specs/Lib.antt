-- What is meant: a block of which all is known that a clearing asks of it, what it gives to the sums, and all blocks counted.
pub mod Sure
-- One block over its periods, by its quantities and the prices of its zone: what is summed, what is accepted, where it goes.
pub mod Block
-- The laws of the two walks, and of the sums.
pub mod Gather
-- That what is gathered of a block is what the market measures of it.
pub mod Laws
-- A block that has passed its tests is sure, and what was gathered of it is counted; how large what it gives is.
pub mod Counted
