-- What is meant: what an acceptance and a refusal mean, as sentences.
pub mod Sentences
