-- What is meant: a day, a choice, prices; what a choice accepts; supply, demand, net position; the totals.
pub mod Market
-- What is meant: the rules 11 to 17, 20 and 21, each as a sentence and as the test at one place.
pub mod Rules
-- What is meant: another choice for the same day.
pub mod Other
-- A day, prices and a choice within their limits.
pub mod Range
-- What is accepted, term by term; what a unit's margin says of a step and of a block.
pub mod Margins
-- What steps, blocks and lines share: a value, what it brings to each zone and period, a surplus; and that these add up.
pub mod Items
-- What is counted of one trade, of a step and of a block.
pub mod Measures
