-- What is meant: the limits, by name.
pub mod Limits
-- What is meant: a row's rule is a list of tests, field by field in row order; and the laws of such lists.
pub mod Fields
-- What is meant: the rules of the rows, over the values of their fields.
pub mod Rules
