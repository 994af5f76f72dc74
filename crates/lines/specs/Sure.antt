-- What the walk over prices, lines and flows is sure of: rows that obey their rules, and the rules of a clearing at their places; and what
-- it counts. `c` are the day's counts. Assumes nothing.
use Rattle.std.specs.Prelude.{ℕ, ◌<◌, ◌≡◌, true, List, ℤ}
use Rattle.whole.specs.Whole.{sum}
use Rattle.cells.specs.Cells.{Gained}
use Rattle.cells.specs.Gains.{nothing, all, SumsGained}
use Rattle.cells.specs.declared.Sums.{Sums}
use Rattle.market.specs.Market.{rent_at}
use Rattle.market.specs.Rules.{test}
use Rattle.market.specs.Measures.{line_leaves}
use Rattle.market.specs.declared.Rule.TheVariants.{Price, Capacity, Line}
use Rattle.rows.specs.Rows.{row_start}
use Rattle.rows.specs.Sentences.{IsPrice, IsFlow, LineRow}
use Rattle.rows.specs.declared.Kind.TheVariants.{Lines}
use Rattle.day.specs.declared.Counts.{Counts}
use Rattle.day.specs.Day.{lines_part}
use Rattle.book.specs.Book.{day_of, prices_of, choice_of}

module _ (c : Counts) (day clearing : List ℕ) where
  pub record SurePrice (zone period : ℕ) : Type 0 where
    pub price_is : IsPrice (prices_of c clearing zone period)
    pub kept : test (day_of c day) (prices_of c clearing) (choice_of c clearing) Price zone period ≡ true

  pub record SureLine (l : ℕ) : Type 0 where
    pub row : LineRow c.periods c.zones (lines_part day) (row_start Lines c.periods l)
    pub flow_is : (h : ℕ) → h < c.periods → IsFlow ((choice_of c clearing).flow l h)
    pub capacity : (h : ℕ) → h < c.periods → test (day_of c day) (prices_of c clearing) (choice_of c clearing) Capacity l h ≡ true
    pub line : (h : ℕ) → h < c.periods → test (day_of c day) (prices_of c clearing) (choice_of c clearing) Line l h ≡ true

  -- what a line adds to the five sums: its rent
  abbrev pub line_gives : ℕ → Sums
  line_gives l = record nothing { rent = sum c.periods (rent_at (day_of c day) (prices_of c clearing) (choice_of c clearing) l) }

  -- each line is sure, and what they all take from each zone and period, and add to the sums, is counted
  pub record LinesCounted (flows₀ flows₁ : List ℤ) (sums₀ sums₁ : Sums) : Type 0 where
    pub sure : (l : ℕ) → l < c.lines → SureLine l
    pub flows : Gained c.zones c.periods (λ z h. sum c.lines (line_leaves (day_of c day) (choice_of c clearing) z h)) flows₀ flows₁
    pub sums : SumsGained (all c.lines line_gives) sums₀ sums₁
