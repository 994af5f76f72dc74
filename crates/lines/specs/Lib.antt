-- What is meant: prices, lines and flows of which nothing is broken, and what they count.
pub mod Sure
-- What is asked and told on the way there: of one flow, one line, the first n lines.
pub mod Counted
-- The laws by which the loops go on.
pub mod CountLaws
