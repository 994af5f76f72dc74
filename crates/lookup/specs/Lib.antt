-- What is meant: the look-up.
pub mod LookUp
-- What the look-up's reading of the day file answers, and what follows for the part and the refusal.
pub mod Reading
-- Where each section starts, by what is left of the file from there.
pub mod Starts
-- When the look-up is refused, what it gives, that this is a part of the file, and that its contracts allow one answer.
pub mod Promises
