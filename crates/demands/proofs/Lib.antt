-- What is promised: demands 1 and 2, as theorems about `check`.
pub mod Demands
-- The work behind them: the stages of a verdict, what is read from a statement, the room after an acceptance.
pub mod Laws
-- The refusals by a rule and by the room.
pub mod Refusals
