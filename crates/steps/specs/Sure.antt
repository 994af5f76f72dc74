-- A step in which nothing is in doubt: its row obeys its rule, and it keeps the rules 13 and 15; and what steps bring to the net positions and
-- to the sums. Assumes nothing.
use Rattle.std.specs.Prelude.{ℕ, ◌<◌, ◌≡◌, true, List, ℤ, pos}
use Rattle.whole.specs.Whole.{sum}
use Rattle.cells.specs.Cells.{Gained}
use Rattle.cells.specs.Gains.{all, SumsGained}
use Rattle.cells.specs.declared.Sums.{Sums}
use Rattle.market.specs.Rules.{test}
use Rattle.market.specs.Measures.{step_measured}
use Rattle.market.specs.declared.Measure.{Measure}
use Rattle.market.specs.declared.Measure.TheVariants.{Buyers, Sellers, Traded, Net}
use Rattle.market.specs.declared.Rule.TheVariants.{Quantity, Step}
use Rattle.rows.specs.Rows.{row_start}
use Rattle.rows.specs.Sentences.{StepRow}
use Rattle.rows.specs.declared.Kind.TheVariants.{Steps}
use Rattle.day.specs.Day.{steps_part}
use Rattle.day.specs.declared.Counts.{Counts}
use Rattle.book.specs.Book.{day_of, prices_of, choice_of}

module _ (c : Counts) (day clearing : List ℕ) where
  pub record SureStep (i : ℕ) : Type 0 where
    pub row : StepRow c.periods c.zones (steps_part day) (row_start Steps c.periods i)
    pub quantity : test (day_of c day) (prices_of c clearing) (choice_of c clearing) Quantity i 0 ≡ true
    pub step : test (day_of c day) (prices_of c clearing) (choice_of c clearing) Step i 0 ≡ true

  -- what is counted of a step
  abbrev pub counted : Measure → ℕ → ℤ
  counted = step_measured (day_of c day) (prices_of c clearing) (choice_of c clearing)

  -- what it brings to a zone and period, and to the sums
  abbrev pub brings : ℕ → ℕ → ℕ → ℤ
  brings i zone period = counted (Net zone period) i

  abbrev pub gives : ℕ → Sums
  gives i = record { buyers = counted Buyers i; sellers = counted Sellers i; rent = pos 0; traded = counted Traded i; shortfall = pos 0 }

  -- one step, from the tables before it to those after it
  pub record StepCounted (i : ℕ) (nets nets' : List ℤ) (sums sums' : Sums) : Type 0 where
    pub sure : SureStep i
    pub nets_gain : Gained c.zones c.periods (brings i) nets nets'
    pub sums_gain : SumsGained (gives i) sums sums'

  -- the first n of them
  pub record StepsCounted (n : ℕ) (nets nets' : List ℤ) (sums sums' : Sums) : Type 0 where
    pub sure : (i : ℕ) → i < n → SureStep i
    pub nets_gain : Gained c.zones c.periods (λ zone period. sum n (λ i. brings i zone period)) nets nets'
    pub sums_gain : SumsGained (all n gives) sums sums'
