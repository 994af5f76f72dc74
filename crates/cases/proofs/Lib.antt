-- That each field that a refusal names has its outcome.
pub mod FieldsShown
-- That the bound of demand 3 does not hold without the shortfall.
pub mod Needed
