-- What is asked and what is told on the way to `LinesCounted`: of one flow, one line in one period, one line, the first n lines. `c` are the
-- day's counts. Assumes nothing.
use Rattle.std.specs.Prelude.{ℕ, ◌+◌, ◌*◌, ◌<◌, ◌≤◌, ◌≡◌, true, ◌&&◌, List, ℤ, pos, neg_ℤ, nat_abs, ◌-ℤ◌, ◌*ℤ◌, length}
use Rattle.std.specs.Int.Signed.{le_z}
use Rattle.whole.specs.Whole.{sum, at}
use Rattle.cells.specs.Cells.{Gained, Within}
use Rattle.cells.specs.Gains.{nothing, all, SumsWithin, SumsGained}
use Rattle.cells.specs.declared.Sums.{Sums}
use Rattle.limits.specs.Limits.{most_flow, most_volume}
use Rattle.market.specs.Rules.{line_ok}
use Rattle.market.specs.Measures.{line_leaves}
use Rattle.market.specs.declared.Line.{Line}
use Rattle.rows.specs.Rows.{from, to, forward, back}
use Rattle.rows.specs.Sentences.{LineRow}
use Rattle.day.specs.declared.Counts.{Counts}
use Rattle.day.specs.Good.{InLimits}
use Rattle.book.specs.Of.{OfClearing}
use Rattle.book.specs.Book.{line_at, prices_of, flow_of, day_of, choice_of}
use Rattle.book.specs.Framed.{Framed, PricesSmall}
use Rattle.lines.specs.Sure.{SureLine, line_gives}

-- what holds at each place below n
pub record Below (n : ℕ) (P : ℕ → Type 0) : Type 0 where
  pub each : (i : ℕ) → i < n → P i

-- from the least to the most, as it is tested
abbrev pub Between : ℤ → ℤ → ℤ → Type 0
Between least most x = (le_z least x && le_z x most) ≡ true

-- n terms gathered in a table
pub record Gathered (zones periods : ℕ) (g : ℕ → ℕ → ℕ → ℤ) (n : ℕ) (before after : List ℤ) : Type 0 where
  pub gained : Gained zones periods (λ z h. sum n (λ i. g i z h)) before after

-- ---- one flow

-- a flow between capacities that are within their limits, full towards the dearer end
pub record FlowSure (forward back : ℕ) (from to flow : ℤ) : Type 0 where
  pub forward_is : forward ≤ most_volume
  pub back_is : back ≤ most_volume
  pub between : Between (neg_ℤ (pos back)) (pos forward) flow
  pub full : line_ok (pos forward) (neg_ℤ (pos back)) from to flow ≡ true

-- it leaves "from" and enters "to"
abbrev pub carried : Line → ℕ → ℤ → ℕ → ℕ → ℤ
carried ends period flow zone h = at period (at ends.from flow zone -ℤ at ends.to flow zone) h

-- what is asked to store it
pub record Carries (c : Counts) (ends : Line) (period : ℕ) (flow : ℤ) (table : List ℤ) : Type 0 where
  pub limits : InLimits c
  pub from_is : ends.from < c.zones
  pub to_is : ends.to < c.zones
  pub period_is : period < c.periods
  pub small : nat_abs flow ≤ most_flow
  pub room : Within c.zones c.periods 3000000000000000000 table

-- ---- a line in one period

module _ (c : Counts) (clearing : List ℕ) where
  -- flow times how much dearer "to" is than "from"
  abbrev pub rent_of : Line → ℕ → ℕ → ℤ
  rent_of ends l h = flow_of c clearing l h *ℤ (prices_of c clearing ends.to h -ℤ prices_of c clearing ends.from h)

  -- what is asked to count it
  pub record FlowAsks (l h : ℕ) (ends : Line) (flows : List ℤ) (sums : Sums) : Type 0 where
    pub of_clearing : OfClearing clearing c
    pub prices : PricesSmall c clearing
    pub line_is : l < c.lines
    pub period_is : h < c.periods
    pub from_is : ends.from < c.zones
    pub to_is : ends.to < c.zones
    pub flows_room : Within c.zones c.periods 3000000000000000000 flows
    pub sums_room : SumsWithin 3000000000000000000 sums

  pub record FlowCounted (l h : ℕ) (ends : Line) (forward back : ℕ) (flows₀ flows₁ : List ℤ) (sums₀ sums₁ : Sums) : Type 0 where
    pub sure : FlowSure forward back (prices_of c clearing ends.from h) (prices_of c clearing ends.to h) (flow_of c clearing l h)
    pub flows : Gained c.zones c.periods (carried ends h (flow_of c clearing l h)) flows₀ flows₁
    pub sums : SumsGained (record nothing { rent = rent_of ends l h }) sums₀ sums₁

-- ---- a line

-- its ends are zones, and different
pub record EndsSure (c : Counts) (part : List ℕ) (at : ℕ) : Type 0 where
  pub from_is : from part at < c.zones
  pub to_is : to part at < c.zones
  pub different : ¬ (to part at ≡ from part at)

module _ (c : Counts) (clearing part : List ℕ) (at l : ℕ) where
  -- what is asked to count it
  pub record LineAsks (flows : List ℤ) (sums : Sums) : Type 0 where
    pub of_clearing : OfClearing clearing c
    pub prices : PricesSmall c clearing
    pub line_is : l < c.lines
    pub starts : at < 4294967296
    pub ends : at + (2 + 8 * c.periods) ≤ length part
    pub flows_room : Within c.zones c.periods 2000000000000000000 flows
    pub sums_room : SumsWithin 2000000000000000000 sums

  abbrev pub FlowSureAt : ℕ → Type 0
  FlowSureAt h =
      FlowSure (forward part at h) (back part at h) (prices_of c clearing (from part at) h) (prices_of c clearing (to part at) h) (flow_of c clearing l h)

  -- its first n periods
  pub record PeriodsCounted (n : ℕ) (flows₀ flows₁ : List ℤ) (sums₀ sums₁ : Sums) : Type 0 where
    pub within : n ≤ c.periods
    pub sure : Below n FlowSureAt
    pub flows : Gathered c.zones c.periods (λ h. carried (line_at part at) h (flow_of c clearing l h)) n flows₀ flows₁
    pub sums : SumsGained (all n (λ h. record nothing { rent = rent_of c clearing (line_at part at) l h })) sums₀ sums₁

  -- all of them
  pub record LineCounted (flows₀ flows₁ : List ℤ) (sums₀ sums₁ : Sums) : Type 0 where
    pub row : LineRow c.periods c.zones part at
    pub all : PeriodsCounted c.periods flows₀ flows₁ sums₀ sums₁

-- ---- all lines

module _ (c : Counts) (day clearing : List ℕ) where
  -- what is known before, and what is asked of the table and of the sums
  pub record LinesAsk (flows : List ℤ) (sums : Sums) : Type 0 where
    pub framed : Framed day clearing c
    pub prices : PricesSmall c clearing
    pub flows_room : Within c.zones c.periods 1000000000000000000 flows
    pub sums_room : SumsWithin 1000000000000000000 sums

  -- the first n lines
  pub record LinesSoFar (n : ℕ) (flows₀ flows₁ : List ℤ) (sums₀ sums₁ : Sums) : Type 0 where
    pub within : n ≤ c.lines
    pub sure : Below n (SureLine c day clearing)
    pub flows : Gathered c.zones c.periods (λ l z h. line_leaves (day_of c day) (choice_of c clearing) z h l) n flows₀ flows₁
    pub sums : SumsGained (all n (line_gives c day clearing)) sums₀ sums₁
