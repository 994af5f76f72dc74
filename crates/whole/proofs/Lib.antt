-- The laws of sums.
pub mod Sums
-- How large a number is, and from that, that it fits an i32 or an i64.
pub mod Size
