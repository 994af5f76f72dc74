-- What is meant: the market's day that a day file says, the prices and the choice that a clearing file says.
pub mod Book
-- Two files with the counts in hand: framed, and read without fault.
pub mod Of
-- Where the rows of a day file lie.
pub mod DayRows
-- Their numbers lie within their limits, and their rows name zones and periods that are there.
pub mod Ranges
-- What is known before the rows are read: the frames, and prices within their limits.
pub mod Framed
