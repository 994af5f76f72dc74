-- That a section's stages say what a section guarantees that reads without fault, and which field of a bad row is the first that fails.
pub mod GoodLaws
