-- Day A and clearing A, as bytes, and their changes.
pub mod Files
-- The table of cases, and that each has its outcome.
pub mod Cases
-- The tables of fields that a refusal names.
pub mod FieldCases
-- A day without bytes, with one block.
pub mod OneBlock
-- The table of blocks accepted in part, and that each has its outcome.
pub mod RatioCases
-- Other choices than the accepted one, and the shortfalls that these leave.
pub mod Others
-- The errors that this trade has made, with the rule paper's numbers.
pub mod Errors
