-- What a row that obeys its rule guarantees, as sentences: the tests of its fields, read as facts. Assumes nothing.
use Rattle.std.specs.Prelude.{ℕ, ◌+◌, ◌*◌, ◌/◌, ◌%◌, ◌<◌, ◌≤◌, ◌≡◌, refl, ◌↔◌, Bool, true, false, not, List, ℤ, pos, neg_ℤ}
use Rattle.std.proofs.Common.{eq-or-lt_of_le, arith, ⊎_elim}
use Rattle.wire.specs.Bytes.{u16_at, u32_at, i32_at}
use Rattle.whole.specs.Whole.{◌≼◌}
use Rattle.whole.specs.Ring.{le_z_true}
use Rattle.stages.specs.First.{every, Says, first_bad, found_nothing, every_is, both, apart, leb_is, leb_false_is, ltb_is, eqb_is, not_is}
use Rattle.stages.proofs.FirstLaws.{says, every_first}
use Rattle.limits.specs.Limits.{most_price, most_flow, most_volume, most_ratio, is_price, is_flow}
use Rattle.rows.specs.Laws.{line_split, block_split}
use Rattle.rows.specs.Rows.{row_start, field_ok, row_ok, floor, ceiling, code, code_before, from, to, forward, back}
use Rattle.rows.specs.Rows.{step_zone, step_period, step_side, step_spare, step_price, step_quantity}
use Rattle.rows.specs.Rows.{block_zone, block_side, block_least, block_price, block_quantity}
use Rattle.rows.specs.declared.Kind.TheVariants.{Periods, Zones, Lines, Steps, Blocks, Prices, Flows, Volumes, Ratios}
use Rattle.std.specs.Prelude.{Option, Some, None}

-- ---- what is meant

pub record IsPrice (p : ℤ) : Type 0 where
  pub low : neg_ℤ (pos most_price) ≼ p
  pub high : p ≼ pos most_price

pub record IsFlow (f : ℤ) : Type 0 where
  pub low : neg_ℤ (pos most_flow) ≼ f
  pub high : f ≼ pos most_flow

pub record PeriodRow (part : List ℕ) (at : ℕ) : Type 0 where
  pub floor_is : IsPrice (floor part at)
  pub ceiling_is : IsPrice (ceiling part at)
  pub in_order : floor part at ≼ ceiling part at

pub record ZoneRow (part : List ℕ) (i at : ℕ) : Type 0 where
  pub at_least : 1 ≤ code part at
  pub above : code_before part i at < code part at

pub record LineRow (periods zones : ℕ) (part : List ℕ) (at : ℕ) : Type 0 where
  pub from_is : from part at < zones
  pub to_is : to part at < zones
  pub different : ¬ (to part at ≡ from part at)
  pub forward_is : (period : ℕ) → period < periods → forward part at period ≤ most_volume
  pub back_is : (period : ℕ) → period < periods → back part at period ≤ most_volume

pub record StepRow (periods zones : ℕ) (part : List ℕ) (at : ℕ) : Type 0 where
  pub zone_is : step_zone part at < zones
  pub period_is : step_period part at < periods
  pub side_is : step_side part at ≤ 1
  pub spare_is : step_spare part at ≡ 0
  pub price_is : IsPrice (step_price part at)
  pub at_least : 1 ≤ step_quantity part at
  pub at_most : step_quantity part at ≤ most_volume

pub record BlockRow (periods zones : ℕ) (part : List ℕ) (at : ℕ) : Type 0 where
  pub zone_is : block_zone part at < zones
  pub side_is : block_side part at ≤ 1
  pub least_is : block_least part at ≤ most_ratio
  pub price_is : IsPrice (block_price part at)
  pub quantity_is : (period : ℕ) → period < periods → block_quantity part at period ≤ most_volume
  -- a period with a quantity above 0
  pub some_period : ℕ
  pub some_below : some_period < periods
  pub some_above : 0 < block_quantity part at some_period

-- ---- a test's answer, as a fact

not_every_is : (n : ℕ) (t : ℕ → Bool) → (not (every n t) ≡ true) ↔ ((j : ℕ) × ((j < n) × (t j ≡ false)))
not_every_is n t = (
  λ e. by (first_bad n t) (says n t) (rw (every_first n t) at e),
  λ h. (not_is (every n t)).1 (λ e. apart ((every_is n t).0 e h.0 h.1.0) h.1.1),
)
  where
    by : (f : Option ℕ) → Says n t f → not (found_nothing f) ≡ true → (j : ℕ) × ((j < n) × (t j ≡ false))
    by (Some k) s e = (k, (s.0, s.1.0))
    by None s e = apart e refl

price_is : (p : ℤ) → (is_price p ≡ true) ↔ IsPrice p
price_is p = simp (both, le_z_true) (λ h. search, λ h. search)

flow_is : (f : ℤ) → (is_flow f ≡ true) ↔ IsFlow f
flow_is f = simp (both, le_z_true) (λ h. search, λ h. search)

-- simp takes the first that fits, so the more special stand first
ruleset tests = (price_is, not_every_is, both, every_is, leb_is, leb_false_is, ltb_is, eqb_is, not_is, le_z_true)

-- the places of a line's capacities are those of its capacities forward and back
forward_and_back : (P : ℕ → Type 0) (at n : ℕ) →
    ((k : ℕ) → k < 2 * n → P (at + 2 + 4 * k)) ↔ (((h : ℕ) → h < n → P (at + 2 + 8 * h)) × ((h : ℕ) → h < n → P (at + 6 + 8 * h)))
forward_and_back P at n = (
  λ f. (
    λ h l. let e : at + 2 + 4 * (2 * h) ≡ at + 2 + 8 * h = omega arith in rw e at (f (2 * h) (omega arith)),
    λ h l. let e : at + 2 + 4 * (2 * h + 1) ≡ at + 6 + 8 * h = omega arith in rw e at (f (2 * h + 1) (omega arith)),
  ),
  λ g k l. ⊎_elim
      (λ (z : 0 ≡ k % 2). let e : at + 2 + 8 * (k / 2) ≡ at + 2 + 4 * k = omega arith in rw e at (g.0 (k / 2) (omega arith)))
      (λ (z : 0 < k % 2). let e : at + 6 + 8 * (k / 2) ≡ at + 2 + 4 * k = omega arith in rw e at (g.1 (k / 2) (omega arith)))
      (eq-or-lt_of_le (omega arith)),
)

-- ---- the tests are the sentences

module _ (periods zones : ℕ) (part : List ℕ) (i : ℕ) where
  pub period_row : (row_ok Periods periods zones part i ≡ true) ↔ PeriodRow part (row_start Periods periods i)
  unfolding field_ok
  period_row = simp tests (λ h. search, λ h. search)

  pub zone_row : (row_ok Zones periods zones part i ≡ true) ↔ ZoneRow part i (row_start Zones periods i)
  unfolding field_ok
  zone_row = simp tests (λ h. search, λ h. search)

  pub line_row : (row_ok Lines periods zones part i ≡ true) ↔ LineRow periods zones part (row_start Lines periods i)
  unfolding field_ok
  line_row = simp (line_split, tests, forward_and_back (λ place. u32_at part place ≤ most_volume)) (λ h. search, λ h. search)

  pub step_row : (row_ok Steps periods zones part i ≡ true) ↔ StepRow periods zones part (row_start Steps periods i)
  unfolding field_ok
  step_row = simp tests (λ h. search, λ h. search)

  pub block_row : (row_ok Blocks periods zones part i ≡ true) ↔ BlockRow periods zones part (row_start Blocks periods i)
  unfolding field_ok
  block_row = simp (block_split, tests) (λ h. search, λ h. (search, (h.some_period, (h.some_below, h.some_above))))

  pub price_row : (row_ok Prices periods zones part i ≡ true) ↔ IsPrice (i32_at part (row_start Prices periods i))
  unfolding field_ok
  price_row = price_is _

  pub flow_row_lem : (row_ok Flows periods zones part i ≡ true) ↔ IsFlow (i32_at part (row_start Flows periods i))
  unfolding field_ok
  flow_row_lem = flow_is _

  pub volume_row : (row_ok Volumes periods zones part i ≡ true) ↔ (u32_at part (row_start Volumes periods i) ≤ most_volume)
  unfolding field_ok
  volume_row = leb_is _ _

  pub ratio_row : (row_ok Ratios periods zones part i ≡ true) ↔ (u16_at part (row_start Ratios periods i) ≤ most_ratio)
  unfolding field_ok
  ratio_row = leb_is _ _
