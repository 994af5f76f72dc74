-- What is meant: the verdict on two files, what it leaves in the room, and what each of its cases gives.
pub mod Verdict
-- The same from the rules on, and from the room on.
pub mod Steps
