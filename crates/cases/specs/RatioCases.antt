-- Blocks accepted in part: least ratios, whole volumes and shortfalls, in day A with another block and in a block of two periods. A table
-- and one statement about it. Assumes nothing.
use Rattle.std.specs.Prelude.{ℕ, ◌+◌, ◌≡◌, refl, true, false, List, [], ◌∷◌, pos}
use Rattle.whole.specs.Whole.{sum, at, above_zero}
use Rattle.rows.specs.Rows.{field_ok}
use Rattle.market.specs.Market.{Day, Choice, block_volume, surplus_of, rent, shortfall, totals}
use Rattle.market.specs.Market as market
use Rattle.market.specs.Rules.{whole_ok, test}
use Rattle.market.specs.declared.Rule.TheVariants.{Whole}
use Rattle.day.specs.Day.{day_stages}
use Rattle.clearing.specs.Clearing.{clearing_stages}
use Rattle.book.specs.Book.{floor_of, ceiling_of, step_of, line_of, forward_of, back_of, block_of, quantity_of, volume_of, ratio_of, prices_of, flow_of}
use Rattle.cases.specs.Files.{day_with, clearing_with, clearing_a}
use Rattle.cases.specs.Cases.{Case, accepted, refused, Shown}
use Rattle.cases.specs.OneBlock.{one_block, accepting, two_prices}
use Rattle.verdict.specs.Verdict.{Outcome}

-- day A's block with a least ratio, a quantity and a price; step 2 and the block share 200 of zone 1 where nothing is wrong
abbrev block : ℕ → ℕ → ℕ → ℕ → ℕ → Outcome → Case
block least quantity price step2 ratio outcome =
    record { day = day_with least quantity price; clearing = clearing_a (pos 2000) 5000 500 900 400 step2 700 ratio; outcome = outcome }

-- an old clearing file, with one byte for the block
abbrev old_clearing : ℕ → ℕ → Outcome → Case
old_clearing step2 taken outcome =
    record { day = day_with 0 200 5000; clearing = clearing_with (pos 2000) 5000 500 900 400 step2 700 (taken ∷ []); outcome = outcome }

abbrev pub table : List Case
table =
    -- a quarter of 400, just the least: the shortfall is that of the 300 left
    block 250 400 4500 100 250 (accepted 4750000 3200000 50000 1500000 1100 150000)
    -- one thousandth less
    ∷ block 250 400 4500 100 249 (refused 20 0 0)
    -- a least ratio of 0 stands for 1,000: half is below it, and 999; the whole is not, and nothing is
    ∷ block 0 400 4500 0 500 (refused 20 0 0)
    ∷ block 0 400 4500 0 999 (refused 20 0 0)
    ∷ block 0 200 4500 0 1000 (accepted 4800000 3200000 100000 1500000 1100 0)
    ∷ block 0 200 4500 200 0 (accepted 4700000 3200000 0 1500000 1100 100000)
    -- one in a thousand is whole of 1,000 and not of 999
    ∷ block 1 1000 4500 199 1 (accepted 4700500 3200000 500 1500000 1100 499500)
    ∷ block 1 999 4500 199 1 (refused 21 0 0)
    -- the block rule holds for a part too: one above the price, and at the price
    ∷ block 250 400 5001 100 250 (refused 17 0 0)
    ∷ block 250 400 5000 100 250 (accepted 4700000 3200000 0 1500000 1100 0)
    -- 13, then 20, then 21, then 14
    ∷ block 250 400 4500 801 249 (refused 13 2 0)
    ∷ block 250 400 4500 101 249 (refused 20 0 0)
    ∷ block 249 400 4500 101 249 (refused 21 0 0)
    ∷ block 250 400 4500 101 250 (refused 14 1 0)
    -- an old clearing file has one byte for a block: rejected, and accepted
    ∷ old_clearing 200 0 (refused 5 4 0)
    ∷ old_clearing 0 1 (refused 5 4 0)
    ∷ []

pub shown : Shown table
unfolding day_stages clearing_stages field_ok floor_of ceiling_of step_of line_of forward_of back_of block_of quantity_of volume_of ratio_of
    prices_of flow_of test block_volume market.accepted surplus_of rent shortfall totals sum at above_zero
shown = (refl, (refl, (refl, (refl, (refl, (refl, (refl, (refl, (refl, (refl, (refl, (refl, (refl, (refl, (refl, (refl, tt))))))))))))))))

-- ---- a block of two periods, which sells at 3,000, and half of it

abbrev two_periods : ℕ → ℕ → Day
two_periods = one_block 3000 100

abbrev half : Choice
half = accepting 500

-- Half of 1 and half of 999 are not whole, though half of the 1,000 that they are together is.
pub whole_in_each_period : (whole_ok 500 (1 + 999) ≡ true)
    × ((test (two_periods 1 999) (two_prices 4000 4000) half Whole 0 0 ≡ false)
    × (test (two_periods 1 999) (two_prices 4000 4000) half Whole 0 1 ≡ false))
unfolding test
whole_in_each_period = (refl, (refl, refl))

-- The shortfall is signed over the periods. Of 100 and 300 half is left; at 6,000 and 2,200 that gains 150,000 and loses 120,000. At 6,000
-- and 2,000 it is just nothing, and at 6,000 and 1,900 it is cut at 0.
pub signed_over_periods : (shortfall (two_periods 100 300) (two_prices 6000 2200) half ≡ pos 30000)
    × ((shortfall (two_periods 100 300) (two_prices 6000 2000) half ≡ pos 0)
    × (shortfall (two_periods 100 300) (two_prices 6000 1900) half ≡ pos 0))
unfolding shortfall surplus_of block_volume above_zero sum
signed_over_periods = (refl, (refl, refl))
