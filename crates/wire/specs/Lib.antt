-- What is meant: numbers in a list of bytes, lowest byte first.
pub mod Bytes
-- What follows: what is written is read back, and the bytes around it stay.
pub mod RoundTrip
