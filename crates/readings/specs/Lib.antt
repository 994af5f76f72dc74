-- What is printed of a reading.
pub mod Text
