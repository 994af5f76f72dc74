-- The first field that fails its test, by its place in the list of tests.
pub mod Position
