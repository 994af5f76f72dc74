-- What `Option::or_else` gives is the first of two answers that found something.
pub mod OrElse
