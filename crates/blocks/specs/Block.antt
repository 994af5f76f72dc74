-- One block over its periods, by its quantities and the prices of its zone: what the first walk sums, what the second brings to the net
-- positions, and what is given to the five sums. Assumes nothing.
use Rattle.std.specs.Prelude.{ℕ, ◌+◌, ◌*◌, ◌/◌, ◌≤◌, ◌<◌, ◌≡◌, true, List, ℤ, pos, neg_ℤ, nat_abs, ◌+ℤ◌, ◌-ℤ◌, ◌*ℤ◌, length}
use Rattle.whole.specs.Whole.{◌≼◌, sum, at, above_zero}
use Rattle.cells.specs.Cells.{Gained}
use Rattle.cells.specs.Gains.{nothing, SumsGained}
use Rattle.cells.specs.declared.Sums.{Sums}
use Rattle.limits.specs.Limits.{most_periods, most_price, most_volume, most_ratio}
use Rattle.market.specs.Market.{block_volume, of_sells, of_buys}
use Rattle.market.specs.Rules.{whole_ok}
use Rattle.market.specs.Measures.{by_side}
use Rattle.market.specs.declared.Side.{Side}
use Rattle.rows.specs.Rows.{block_zone, block_side, block_least, block_price, block_quantity}
use Rattle.rows.specs.Sentences.{IsPrice}
use Rattle.day.specs.declared.Counts.{Counts}

-- ---- the head of its row

pub record HeadRow (zones : ℕ) (part : List ℕ) (at : ℕ) : Type 0 where
  pub zone_is : block_zone part at < zones
  pub side_is : block_side part at ≤ 1
  pub least_is : block_least part at ≤ most_ratio
  pub price_is : IsPrice (block_price part at)

-- ---- the first walk

-- over the first n periods: the sum of the quantities, that of the quantities at their prices, each raised by the highest, and a number that
-- no quantity is above
pub record WalkedTo (quantity : ℕ → ℕ) (price : ℕ → ℤ) (n all worth bits : ℕ) : Type 0 where
  pub all_is : pos all ≡ sum n (λ h. pos (quantity h))
  pub worth_is : pos worth ≡ sum n (λ h. (price h +ℤ pos most_price) *ℤ pos (quantity h))
  pub bits_above : (h : ℕ) → h < n → quantity h ≤ bits
  pub all_small : all ≤ n * 4294967295
  pub worth_small : worth ≤ n * 8589934590000000

-- the surplus of the whole block: the limit is raised as the prices are
abbrev pub surplus_by : Side → ℤ → ℕ → ℕ → ℤ
surplus_by side limit all worth =
    by_side side (pos worth -ℤ (limit +ℤ pos most_price) *ℤ pos all) ((limit +ℤ pos most_price) *ℤ pos all -ℤ pos worth)

-- ---- the second walk

-- what it needs to know of a block in a zone, whose row starts at `at`, with a ratio
pub record Ready (c : Counts) (part : List ℕ) (at zone ratio : ℕ) : Type 0 where
  pub row_within : at + (8 + 4 * c.periods) ≤ length part
  pub quantities : (period : ℕ) → period < c.periods → block_quantity part at period ≤ most_volume
  pub ratio_is : ratio ≤ most_ratio
  pub zone_is : zone < c.zones
  pub cells : c.zones * c.periods ≤ 200
  pub periods_most : c.periods ≤ most_periods

-- a sell brings its volume, a buy takes it
abbrev pub signed_volume : Side → ℕ → ℤ
signed_volume side volume = by_side side (pos volume) (neg_ℤ (pos volume))

-- what the first n periods bring to a zone and period
abbrev pub brings : ℕ → Side → (ℕ → ℕ) → ℕ → ℕ → ℕ → ℤ
brings zone side volume n z h = sum n (λ i. at zone (at i (signed_volume side (volume i)) h) z)

pub record BroughtTo (zones periods zone : ℕ) (side : Side) (volume : ℕ → ℕ) (n volumes : ℕ) (nets₀ nets₁ : List ℤ) : Type 0 where
  pub volumes_are : pos volumes ≡ sum n (λ h. pos (volume h))
  pub nets : Gained zones periods (brings zone side volume n) nets₀ nets₁

-- ---- what is given to the five sums

-- by what is accepted: its surplus and its volumes
abbrev pub shared : Side → ℤ → ℤ → Sums
shared side accepted volumes = record nothing { buyers = of_buys side accepted; sellers = of_sells side accepted; traded = of_buys side volumes }

-- the surplus of what is accepted, of a whole that does not lose
abbrev pub part_of : ℤ → ℕ → ℤ
part_of surplus ratio = pos (nat_abs surplus * ratio / most_ratio)

pub record Accepted (zones periods zone : ℕ) (side : Side) (ratio : ℕ) (quantity : ℕ → ℕ) (surplus : ℤ) (nets₀ nets₁ : List ℤ) (sums₀ sums₁ : Sums) : Type 0 where
  pub gains : pos 0 ≼ surplus
  pub whole : (h : ℕ) → h < periods → whole_ok ratio (quantity h) ≡ true
  pub nets : Gained zones periods (brings zone side (λ h. block_volume ratio (quantity h)) periods) nets₀ nets₁
  pub sums : SumsGained (record (shared side (part_of surplus ratio) (sum periods (λ h. pos (block_volume ratio (quantity h))))) {
    shortfall = above_zero (surplus -ℤ part_of surplus ratio);
  }) sums₀ sums₁
