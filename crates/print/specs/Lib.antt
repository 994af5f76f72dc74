-- What the printed bytes are.
pub mod Hex
