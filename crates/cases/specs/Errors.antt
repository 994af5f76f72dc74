-- The errors that the rule paper says this trade has made, each with its numbers and what is right. Assumes nothing.
use Rattle.std.specs.Prelude.{ℕ, ◌≡◌, refl, true, false, pos, neg_ℤ}
use Rattle.whole.specs.Whole.{sum}
use Rattle.market.specs.Market.{Day, Choice, surplus_of, whole_surplus}
use Rattle.market.specs.Rules.{step_ok, line_ok, test}
use Rattle.market.specs.declared.Side.TheVariants.{Sell}
use Rattle.market.specs.declared.Rule.TheVariants.{Block}
use Rattle.cases.specs.OneBlock.{one_block, accepting, two_prices}

-- a block that sells at 4,000, all or nothing, and these quantities; it is accepted
abbrev at_four_thousand : ℕ → ℕ → Day
at_four_thousand = one_block 4000 1000

abbrev taken : Choice
taken = accepting 1000

-- A plain average. Quantities 100 and 300, prices 6,000 and 3,200: 1,560,000 against 1,600,000, though the plain average is 4,600.
pub plain_average : (whole_surplus (at_four_thousand 100 300) (two_prices 6000 3200) 0 ≡ neg_ℤ (pos 40000))
    × (test (at_four_thousand 100 300) (two_prices 6000 3200) taken Block 0 0 ≡ false)
unfolding test surplus_of sum
plain_average = (refl, refl)

-- Rounding before comparing. Quantities 1 and 2, prices 3,999 and 4,000: 11,999 is below 12,000.
pub rounding_before_comparing : (whole_surplus (at_four_thousand 1 2) (two_prices 3999 4000) 0 ≡ neg_ℤ (pos 1))
    × (test (at_four_thousand 1 2) (two_prices 3999 4000) taken Block 0 0 ≡ false)
unfolding test surplus_of sum
rounding_before_comparing = (refl, refl)

-- Signs. At a price of -50 a sell step at -100 is in the money: of 10, all are accepted, and 9 are wrong.
pub signs : (step_ok Sell (neg_ℤ (pos 100)) 10 (neg_ℤ (pos 50)) 10 ≡ true) × (step_ok Sell (neg_ℤ (pos 100)) 10 (neg_ℤ (pos 50)) 9 ≡ false)
signs = (refl, refl)

-- Judging a line by one direction only, or by "full" without asking which way. Forward 500, back 200: full back where "to" is dearer, and
-- full forward where it is cheaper, are both wrong.
pub full_the_wrong_way : (line_ok (pos 500) (neg_ℤ (pos 200)) (pos 2000) (pos 5000) (neg_ℤ (pos 200)) ≡ false)
    × (line_ok (pos 500) (neg_ℤ (pos 200)) (pos 5000) (pos 2000) (pos 500) ≡ false)
full_the_wrong_way = (refl, refl)

-- Counting an at-the-money step as wrong when it is partly filled. At 2,000, 900 of 1,000 are allowed.
pub partly_filled_at_the_price : step_ok Sell (pos 2000) 1000 (pos 2000) 900 ≡ true
partly_filled_at_the_price = refl
