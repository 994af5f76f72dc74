-- That steps, lines and blocks are priced and best.
pub mod KindLaws
-- That no other choice is worth more, but for the shortfall, and that the surpluses and the rent add up to the order value.
pub mod Welfare
-- That a test passes just where its sentence holds, and what follows: neither rent nor shortfall is below zero.
pub mod RuleLaws
-- That the sums of what is counted are the totals and the net positions, and how large they are.
pub mod MeasureLaws
-- What `gain` answers, as those who call it pass it on.
pub mod Gains
