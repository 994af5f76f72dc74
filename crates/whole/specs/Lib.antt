-- What is meant: the order of whole numbers, the part above zero, a sum over a count, a number at one place.
pub mod Whole
-- The ordered ring of whole numbers, and the recipes `linear` and `ring`.
pub mod Ring
