-- What is meant: a section of a file as a list of stages, and what is left of the file after it.
pub mod Section
-- What the reader of a section answers, and that its answer is the first fault of the section's stages.
pub mod Answer
-- What a section that reads without fault guarantees, as a sentence.
pub mod Good
