-- What a reading may say of a buffer.
pub mod Within
