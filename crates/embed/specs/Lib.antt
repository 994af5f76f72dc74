-- What each function for other languages gives.
pub mod Surface
