-- What is meant: a section of either file, by the kind of its rows.
pub mod Reader
-- A section's answer taken apart: a fault returns at once, and what is left of the file is handed on.
pub mod Chain
