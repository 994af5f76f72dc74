-- What is meant: a table that has a number for each zone and period; and what adding a number at one place makes of it.
pub mod Cells
-- The five sums: how far from zero, and what they gain.
pub mod Gains
