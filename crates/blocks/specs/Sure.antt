-- A block of which all is known that a clearing asks of it: its row obeys its rule, and so do its ratio, its volumes and its surplus. What
-- it gives to the five sums. All blocks so, and counted: into the net positions and into the sums. Assumes nothing.
use Rattle.std.specs.Prelude.{ℕ, ◌≤◌, ◌<◌, ◌≡◌, true, List, ℤ, pos}
use Rattle.whole.specs.Whole.{sum}
use Rattle.cells.specs.Cells.{Gained}
use Rattle.cells.specs.Gains.{all, SumsGained}
use Rattle.cells.specs.declared.Sums.{Sums}
use Rattle.limits.specs.Limits.{most_ratio}
use Rattle.market.specs.Market.{missed}
use Rattle.market.specs.Rules.{test}
use Rattle.market.specs.Measures.{block_measured}
use Rattle.market.specs.declared.Rule.TheVariants.{Ratio, Whole, Block}
use Rattle.market.specs.declared.Measure.TheVariants.{Buyers, Sellers, Traded, Net}
use Rattle.rows.specs.Rows.{row_start}
use Rattle.rows.specs.Sentences.{BlockRow}
use Rattle.rows.specs.declared.Kind.TheVariants.{Blocks}
use Rattle.day.specs.declared.Counts.{Counts}
use Rattle.day.specs.Day.{blocks_part}
use Rattle.book.specs.Book.{day_of, prices_of, choice_of}

module _ (c : Counts) (day clearing : List ℕ) where
  pub record SureBlock (k : ℕ) : Type 0 where
    pub row : BlockRow c.periods c.zones (blocks_part day) (row_start Blocks c.periods k)
    pub ratio_is : (choice_of c clearing).ratio k ≤ most_ratio
    pub ratio : test (day_of c day) (prices_of c clearing) (choice_of c clearing) Ratio k 0 ≡ true
    pub whole : (h : ℕ) → h < c.periods → test (day_of c day) (prices_of c clearing) (choice_of c clearing) Whole k h ≡ true
    pub block : test (day_of c day) (prices_of c clearing) (choice_of c clearing) Block k 0 ≡ true

  -- to the net position of a zone and period
  abbrev pub block_brings : ℕ → ℕ → ℕ → ℤ
  block_brings k zone period = block_measured (day_of c day) (prices_of c clearing) (Net zone period) k ((choice_of c clearing).ratio k)

  -- to each of the five sums
  abbrev pub block_gives : ℕ → Sums
  block_gives k = record {
    buyers = block_measured (day_of c day) (prices_of c clearing) Buyers k ((choice_of c clearing).ratio k);
    sellers = block_measured (day_of c day) (prices_of c clearing) Sellers k ((choice_of c clearing).ratio k);
    rent = pos 0;
    traded = block_measured (day_of c day) (prices_of c clearing) Traded k ((choice_of c clearing).ratio k);
    shortfall = missed (day_of c day) (prices_of c clearing) (choice_of c clearing) k;
  }

  -- one block, the first n blocks, and all of them
  pub record BlockCounted (k : ℕ) (nets₀ nets₁ : List ℤ) (sums₀ sums₁ : Sums) : Type 0 where
    pub sure : SureBlock k
    pub nets : Gained c.zones c.periods (block_brings k) nets₀ nets₁
    pub sums : SumsGained (block_gives k) sums₀ sums₁

  pub record CountedTo (n : ℕ) (nets₀ nets₁ : List ℤ) (sums₀ sums₁ : Sums) : Type 0 where
    pub sure : (k : ℕ) → k < n → SureBlock k
    pub nets : Gained c.zones c.periods (λ z h. sum n (λ k. block_brings k z h)) nets₀ nets₁
    pub sums : SumsGained (all n block_gives) sums₀ sums₁

  abbrev pub BlocksCounted : List ℤ → List ℤ → Sums → Sums → Type 0
  BlocksCounted = CountedTo c.blocks
