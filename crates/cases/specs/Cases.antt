-- The rule paper's cases C1 to C12: one table, and one statement about it. Assumes nothing.
use Rattle.std.specs.Prelude.{ℕ, ◌≡◌, refl, List, [], ◌∷◌, pos, neg_ℤ}
use Rattle.stages.specs.Stage.{place}
use Rattle.whole.specs.Whole.{sum, at, above_zero}
use Rattle.rows.specs.Rows.{field_ok}
use Rattle.market.specs.Market.{block_volume, surplus_of, rent, shortfall, totals}
use Rattle.market.specs.Market as market
use Rattle.market.specs.Rules.{test}
use Rattle.day.specs.Day.{day_stages}
use Rattle.clearing.specs.Clearing.{clearing_stages}
use Rattle.book.specs.Book.{floor_of, ceiling_of, step_of, line_of, forward_of, back_of, block_of, quantity_of, volume_of, ratio_of, prices_of, flow_of}
use Rattle.verdict.specs.Verdict.{verdict}
use Rattle.cases.specs.Files.{day_a, clearing_a, empty_day, empty_clearing}
use Rattle.std.specs.Prelude.{Ok, Err}
use Rattle.verdict.specs.Verdict.{Outcome}

pub record Case : Type 0 where
  pub day : List ℕ
  pub clearing : List ℕ
  pub outcome : Outcome

-- order value, buyers, sellers, rent, traded, shortfall
abbrev pub accepted : ℕ → ℕ → ℕ → ℕ → ℕ → ℕ → Outcome
accepted value buyers sellers rent traded shortfall =
    Ok (record {
      value = pos value;
      buyers = pos buyers;
      sellers = pos sellers;
      rent = pos rent;
      traded = pos traded;
      shortfall = pos shortfall;
    })

abbrev pub refused : ℕ → ℕ → ℕ → Outcome
refused number first second = Err (number, place first second)

abbrev pub table : List Case
table =
    -- C1: none
    record { day = day_a 300 4500; clearing = clearing_a (pos 2000) 5000 500 900 400 200 700 0; outcome = accepted 4700000 3200000 0 1500000 1100 150000 }
    -- C2: flow 499, step 0 at 899, step 2 at 201
    ∷ record { day = day_a 300 4500; clearing = clearing_a (pos 2000) 5000 499 899 400 201 700 0; outcome = refused 16 0 0 }
    -- C3: step 2 at 199
    ∷ record { day = day_a 300 4500; clearing = clearing_a (pos 2000) 5000 500 900 400 199 700 0; outcome = refused 14 1 0 }
    -- C4: step 0 at 1,001
    ∷ record { day = day_a 300 4500; clearing = clearing_a (pos 2000) 5000 500 1001 400 200 700 0; outcome = refused 13 0 0 }
    -- C5: flow 501
    ∷ record { day = day_a 300 4500; clearing = clearing_a (pos 2000) 5000 501 900 400 200 700 0; outcome = refused 12 0 0 }
    -- C6: price of zone 0 -50,001
    ∷ record { day = day_a 300 4500; clearing = clearing_a (neg_ℤ (pos 50001)) 5000 500 900 400 200 700 0; outcome = refused 11 0 0 }
    -- C7: price of zone 0 -50,000
    ∷ record { day = day_a 300 4500; clearing = clearing_a (neg_ℤ (pos 50000)) 5000 500 900 400 200 700 0; outcome = refused 15 0 0 }
    -- C8: block accepted with 1,000, flow 400, steps 800, 400, 0, 700, both prices 2,000
    ∷ record { day = day_a 300 4500; clearing = clearing_a (pos 2000) 2000 400 800 400 0 700 1000; outcome = refused 17 0 0 }
    -- C9: C8 with price of zone 1 4,500
    ∷ record { day = day_a 300 4500; clearing = clearing_a (pos 2000) 4500 400 800 400 0 700 1000; outcome = refused 16 0 0 }
    -- C10: flow 501 and step 0 at 1,001
    ∷ record { day = day_a 300 4500; clearing = clearing_a (pos 2000) 5000 501 1001 400 200 700 0; outcome = refused 12 0 0 }
    -- C11: in the day, block 0 sells 200 at 5,000; block accepted with 1,000, step 2 at 0
    ∷ record { day = day_a 200 5000; clearing = clearing_a (pos 2000) 5000 500 900 400 0 700 1000; outcome = accepted 4700000 3200000 0 1500000 1100 0 }
    -- C12: one zone, one period, no lines or orders, a price inside its bounds
    ∷ record { day = empty_day; clearing = empty_clearing 2000; outcome = accepted 0 0 0 0 0 0 }
    ∷ []

-- each case of a list has its outcome, with a room of 60 bytes
abbrev pub Shown : List Case → Type 0
Shown [] = Unit
Shown (c ∷ cs) = (verdict c.day c.clearing 60 ≡ c.outcome) × Shown cs

pub shown : Shown table
unfolding day_stages clearing_stages field_ok floor_of ceiling_of step_of line_of forward_of back_of block_of quantity_of volume_of ratio_of
    prices_of flow_of test block_volume market.accepted surplus_of rent shortfall totals sum at above_zero
shown = (refl, (refl, (refl, (refl, (refl, (refl, (refl, (refl, (refl, (refl, (refl, (refl, tt))))))))))))
