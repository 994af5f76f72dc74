-- What is printed of an outcome, and the number that is given back of it.
pub mod Text
pub mod Numbered
