-- Demand 3 by examples: other choices for day A, each of them allowed, with its order value; and a day on which another choice is worth more
-- than the accepted clearing, by just the shortfall, so that the bound needs it (proofs/Needed) and cannot be lower. Assumes nothing.
use Rattle.std.specs.Prelude.{ℕ, ◌≡◌, refl, List, [], ◌∷◌, pos, get_or}
use Rattle.std.proofs.Common.{arith}
use Rattle.whole.specs.Whole.{sum, at, above_zero}
use Rattle.rows.specs.Rows.{field_ok}
use Rattle.market.specs.Market.{Choice, Prices, order_value, block_volume, surplus_of, rent, shortfall, totals}
use Rattle.market.specs.Market as market
use Rattle.market.specs.Rules.{test}
use Rattle.market.specs.Other.{Allowed}
use Rattle.market.proofs.RuleLaws.{tests_allow}
use Rattle.day.specs.Day.{day_stages}
use Rattle.clearing.specs.Clearing.{clearing_stages}
use Rattle.book.specs.Book.{floor_of, ceiling_of, step_of, line_of, forward_of, back_of, block_of, quantity_of, volume_of, ratio_of, prices_of, flow_of}
use Rattle.verdict.specs.Verdict.{day_of, verdict}
use Rattle.cases.specs.Files.{day_with, day_a, clearing_a}
use Rattle.cases.specs.Cases.{accepted}

-- the flow, the volumes of the four steps, and the block's ratio
abbrev choice : ℕ → ℕ → ℕ → ℕ → ℕ → ℕ → Choice
choice flow step0 step1 step2 step3 ratio =
    record { volume = λ i. get_or (step0 ∷ step1 ∷ step2 ∷ step3 ∷ []) i 0; ratio = λ k. ratio; flow = λ l h. pos flow }

pub record Another : Type 0 where
  pub day : List ℕ
  pub choice : Choice
  pub value : ℕ

abbrev pub others : List Another
others =
    -- day A: the block taken, flow 400, steps 800, 400, 0, 700. Clearing A has 4,700,000
    record { day = day_a 300 4500; choice = choice 400 800 400 0 700 1000; value = 4550000 }
    -- day A: the block left as in clearing A, flow 300, steps 700, 400, 400, 700
    ∷ record { day = day_a 300 4500; choice = choice 300 700 400 400 700 0; value = 4100000 }
    -- day A: nothing at all
    ∷ record { day = day_a 300 4500; choice = choice 0 0 0 0 0 0; value = 0 }
    -- day A with a block of 200: the block taken in place of step 2, flow 500, steps 900, 400, 0, 700
    ∷ record { day = day_a 200 4500; choice = choice 500 900 400 0 700 1000; value = 4800000 }
    -- the same block with a least ratio of 500: half of it taken, and half of it from step 2
    ∷ record { day = day_with 500 200 4500; choice = choice 500 900 400 100 700 500; value = 4750000 }
    -- and all of it
    ∷ record { day = day_with 500 200 4500; choice = choice 500 900 400 0 700 1000; value = 4800000 }
    ∷ []

abbrev pub Shown : List Another → Type 0
Shown [] = Unit
Shown (o ∷ os) = (Allowed (day_of o.day) o.choice × (order_value (day_of o.day) o.choice ≡ pos o.value)) × Shown os

-- the prices at which the tests are made that ask for none
abbrev any_prices : Prices
any_prices z h = pos 0

pub shown : Shown others
unfolding day_stages clearing_stages field_ok floor_of ceiling_of step_of line_of forward_of back_of block_of quantity_of volume_of ratio_of
    flow_of test block_volume market.accepted sum at
shown = (
  (tests_allow _ any_prices _ (λ k _. omega arith) refl, refl),
  (
    (tests_allow _ any_prices _ (λ k _. omega arith) refl, refl),
    (
      (tests_allow _ any_prices _ (λ k _. omega arith) refl, refl),
      (
        (tests_allow _ any_prices _ (λ k _. omega arith) refl, refl),
        (
          (tests_allow _ any_prices _ (λ k _. omega arith) refl, refl),
          ((tests_allow _ any_prices _ (λ k _. omega arith) refl, refl), tt),
        ),
      ),
    ),
  ),
)

-- clearing A, for day A with a block of 200 that is left out: accepted, with a shortfall of 200 times 500
pub left_out : verdict (day_a 200 4500) (clearing_a (pos 2000) 5000 500 900 400 200 700 0) 60 ≡ accepted 4700000 3200000 0 1500000 1100 100000
unfolding day_stages clearing_stages field_ok floor_of ceiling_of step_of line_of forward_of back_of block_of quantity_of volume_of ratio_of
    prices_of flow_of test block_volume market.accepted surplus_of rent shortfall totals sum at above_zero
left_out = refl

-- with the least ratio of 500 and half of it accepted: the shortfall is that of the other half, 100 times 500. All of it is worth just as
-- much more
pub half_left : verdict (day_with 500 200 4500) (clearing_a (pos 2000) 5000 500 900 400 100 700 500) 60
    ≡ accepted 4750000 3200000 50000 1500000 1100 50000
unfolding day_stages clearing_stages field_ok floor_of ceiling_of step_of line_of forward_of back_of block_of quantity_of volume_of ratio_of
    prices_of flow_of test block_volume market.accepted surplus_of rent shortfall totals sum at above_zero
half_left = refl
