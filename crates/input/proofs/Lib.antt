-- What the proofs of readings share.
pub mod Filled
