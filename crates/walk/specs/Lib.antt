-- What is meant: two files in which nothing is broken, with their totals and net positions.
pub mod Walked
-- Rows that are sure make two files that read without fault and keep the rules.
pub mod AllSure
-- What is gathered of them is what they come to.
pub mod Gathered
