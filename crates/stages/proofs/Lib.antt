-- The laws by which a loop looks for the first row at which a test fails, and that the answer says what it means.
pub mod FirstLaws
-- The laws by which a nested loop looks for the first cell of a table at which a test fails.
pub mod TableLaws
-- That an answer is given just where what it means holds, for every list of stages.
pub mod StageLaws
