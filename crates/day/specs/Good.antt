-- What a day file that reads without fault guarantees, and what the reader's two answers mean. Assumes nothing.
use Rattle.std.specs.Prelude.{ℕ, ◌+◌, ◌*◌, ◌<◌, ◌≤◌, ◌≡◌, ◌↔◌, List, length}
use Rattle.std.proofs.Common.{mul-le-mul, arith, sym, ap, ◌∙◌}
use Rattle.stages.specs.Stage.{Means, first_fault}
use Rattle.stages.proofs.StageLaws.{means, result_fault, result_good, result_bad}
use Rattle.stages.specs.declared.Place.{Place}
use Rattle.sections.specs.Section.{count, ended}
use Rattle.sections.specs.Good.{ended_clean, part_length}
use Rattle.limits.specs.Limits.{most_periods, most_zones, most_lines, most_steps, most_blocks}
use Rattle.rows.specs.Rows.{row_size, row_start}
use Rattle.rows.specs.Sentences.{PeriodRow, ZoneRow, LineRow, StepRow, BlockRow, period_row, zone_row, line_row, step_row, block_row}
use Rattle.rows.specs.declared.Kind.TheVariants.{Periods, Zones, Lines, Steps, Blocks}
use Rattle.reader.specs.Reader.{GoodRows}
use Rattle.reader.specs.Chain.{then_clean}
use Rattle.day.specs.Chain.{from_zones, from_lines, from_steps, from_blocks}
use Rattle.day.specs.Day.{periods, zones, zones_part, lines_part, steps_part, blocks_part, end_part, counts, day_numbers, day_stages, day_file}
use Rattle.day.specs.declared.Counts.{Counts}
use Rattle.std.specs.Prelude.{Result, Ok, Err}
use Rattle.stages.specs.declared.Refusal.{Refusal}
use Rattle.stages.specs.Stage.{clean, fault_of}

-- ---- the guarantees

pub record GoodDay (day : List ℕ) : Type 0 where
  pub periods_good : GoodRows Periods 1 most_periods 0 0 day
  pub zones_good : GoodRows Zones 1 most_zones (periods day) 0 (zones_part day)
  pub lines_good : GoodRows Lines 0 most_lines (periods day) (zones day) (lines_part day)
  pub steps_good : GoodRows Steps 0 most_steps (periods day) (zones day) (steps_part day)
  pub blocks_good : GoodRows Blocks 0 most_blocks (periods day) (zones day) (blocks_part day)
  pub no_more : length (end_part day) ≡ 0

-- the bytes of a day file, by its counts
abbrev pub day_length : Counts → ℕ
day_length c =
    2 + 8 * c.periods
    + (2 + 2 * c.zones)
    + (2 + (2 + 8 * c.periods) * c.lines)
    + (2 + 12 * c.steps)
    + (2 + (8 + 4 * c.periods) * c.blocks)

-- counts within their limits
pub record InLimits (c : Counts) : Type 0 where
  pub periods_least : 1 ≤ c.periods
  pub periods_most : c.periods ≤ most_periods
  pub zones_least : 1 ≤ c.zones
  pub zones_most : c.zones ≤ most_zones
  pub lines_most : c.lines ≤ most_lines
  pub steps_most : c.steps ≤ most_steps
  pub blocks_most : c.blocks ≤ most_blocks

pub in_limits : {day : List ℕ} → GoodDay day → InLimits (counts day)
in_limits g = record {
  periods_least = g.periods_good.at_least;
  periods_most = g.periods_good.at_most;
  zones_least = g.zones_good.at_least;
  zones_most = g.zones_good.at_most;
  lines_most = g.lines_good.at_most;
  steps_most = g.steps_good.at_most;
  blocks_most = g.blocks_good.at_most;
}

-- as many prices and flows as a clearing file has at the most
module _ {c : Counts} (l : InLimits c) where
  pub prices_most : c.zones * c.periods ≤ 8 * 25
  prices_most = mul-le-mul l.zones_most l.periods_most

  pub flows_most : c.lines * c.periods ≤ 16 * 25
  flows_most = mul-le-mul l.lines_most l.periods_most

-- ---- where all stages are clean

pub day_clean : (day : List ℕ) → Means (day_stages day) clean ↔ GoodDay day
unfolding day_stages
day_clean day =
    let h = periods day in
    let z = zones day in
    let c1 = then_clean day_numbers 1 Periods 1 most_periods 0 0 day (from_zones h (zones_part day)) in
    let c2 = then_clean day_numbers 2 Zones 1 most_zones h 0 (zones_part day) (from_lines h z (lines_part day)) in
    let c3 = then_clean day_numbers 3 Lines 0 most_lines h z (lines_part day) (from_steps h z (steps_part day)) in
    let c4 = then_clean day_numbers 4 Steps 0 most_steps h z (steps_part day) (from_blocks h z (blocks_part day)) in
    let c5 = then_clean day_numbers 5 Blocks 0 most_blocks h z (blocks_part day) (ended 4 (end_part day)) in
    let e = ended_clean 4 (end_part day) in (
      λ m.
          let m1 = c1.0 m in
          let m2 = c2.0 m1.1 in
          let m3 = c3.0 m2.1 in
          let m4 = c4.0 m3.1 in
          let m5 = c5.0 m4.1 in
          record {
            periods_good = m1.0;
            zones_good = m2.0;
            lines_good = m3.0;
            steps_good = m4.0;
            blocks_good = m5.0;
            no_more = e.0 m5.1;
          },
      λ g. c1.1 (g.periods_good, c2.1 (g.zones_good, c3.1 (g.lines_good, c4.1 (g.steps_good, c5.1 (g.blocks_good, e.1 g.no_more))))),
    )

-- ---- the two answers

-- their number and place are those of the first fault
pub day_fault : (day : List ℕ) {r : Result Counts Refusal} → r ≡ day_file day → fault_of r ≡ first_fault (day_stages day)
day_fault day e = ap fault_of e ∙ result_fault (counts day) (first_fault (day_stages day))

-- the contract of `read_day` allows one answer
pub one_day_answer : (day : List ℕ) {r s : Result Counts Refusal} → r ≡ day_file day → s ≡ day_file day → r ≡ s
one_day_answer day p q = p ∙ sym q

-- a day file reads without fault just where it keeps the guarantees
pub day_good : (day : List ℕ) → (day_file day ≡ Ok (counts day)) ↔ GoodDay day
day_good day =
    let a = result_good (counts day) (day_stages day) in
    (λ e. (day_clean day).0 (a.0 e), λ g. a.1 ((day_clean day).1 g))

-- it is refused with a number and a place just where that is its first fault
pub day_bad : (day : List ℕ) (k : ℕ) (p : Place) → (day_file day ≡ Err (k, p)) ↔ Means (day_stages day) (Err (k, p))
day_bad day = result_bad (counts day) (day_stages day)

-- the counts of a good answer are the file's
pub good_counts : (day : List ℕ) (c : Counts) → day_file day ≡ Ok c → (counts day ≡ c) × GoodDay day
good_counts day c e =
    let f : first_fault (day_stages day) ≡ clean = sym (day_fault day (sym e)) in
    let same : Ok (counts day) ≡ Ok c = rw f at e in
    (cc, (day_clean day).0 ((means (day_stages day) clean).0 f))

-- ---- how long a good day file is

added : {d r1 r2 r3 r4 r5 : ℕ} (a1 a2 a3 a4 a5 : ℕ) → d ≡ a1 + r1 → r1 ≡ a2 + r2 → r2 ≡ a3 + r3 → r3 ≡ a4 + r4 → r4 ≡ a5 + r5 → r5 ≡ 0 →
    d ≡ a1 + a2 + a3 + a4 + a5
added a1 a2 a3 a4 a5 e1 e2 e3 e4 e5 e = omega arith

pub day_length_lem : (day : List ℕ) → GoodDay day → length day ≡ day_length (counts day)
day_length_lem day g =
    let h = periods day in
    added
    (2 + row_size Periods 0 * h)
    (2 + row_size Zones h * zones day)
    (2 + row_size Lines h * count (lines_part day))
    (2 + row_size Steps h * count (steps_part day))
    (2 + row_size Blocks h * count (blocks_part day))
    (part_length (row_size Periods 0) day g.periods_good.room)
    (part_length (row_size Zones h) (zones_part day) g.zones_good.room)
    (part_length (row_size Lines h) (lines_part day) g.lines_good.room)
    (part_length (row_size Steps h) (steps_part day) g.steps_good.room)
    (part_length (row_size Blocks h) (blocks_part day) g.blocks_good.room)
    g.no_more

within : (c : Counts) → InLimits c → day_length c ≤ 38258
within c l =
    let lines : (2 + 8 * c.periods) * c.lines ≤ 202 * 16 = mul-le-mul {n₂ = 202} {m₂ = 16} (omega arith) (omega arith) in
    let blocks : (8 + 4 * c.periods) * c.blocks ≤ 108 * 100 = mul-le-mul {n₂ = 108} {m₂ = 100} (omega arith) (omega arith) in
    omega arith

-- the largest day file
pub day_longest : (day : List ℕ) → GoodDay day → length day ≤ 38258
day_longest day g = rw (day_length_lem day g) (within (counts day) (in_limits g))

-- ---- each row obeys its rule, as a sentence

module _ {day : List ℕ} (g : GoodDay day) {i : ℕ} where
  pub good_period : i < periods day → PeriodRow day (row_start Periods 0 i)
  good_period l = (period_row 0 0 day i).0 (g.periods_good.rows i l)

  pub good_zone : i < zones day → ZoneRow (zones_part day) i (row_start Zones (periods day) i)
  good_zone l = (zone_row (periods day) 0 (zones_part day) i).0 (g.zones_good.rows i l)

  pub good_line : i < count (lines_part day) → LineRow (periods day) (zones day) (lines_part day) (row_start Lines (periods day) i)
  good_line l = (line_row (periods day) (zones day) (lines_part day) i).0 (g.lines_good.rows i l)

  pub good_step : i < count (steps_part day) → StepRow (periods day) (zones day) (steps_part day) (row_start Steps (periods day) i)
  good_step l = (step_row (periods day) (zones day) (steps_part day) i).0 (g.steps_good.rows i l)

  pub good_block : i < count (blocks_part day) → BlockRow (periods day) (zones day) (blocks_part day) (row_start Blocks (periods day) i)
  good_block l = (block_row (periods day) (zones day) (blocks_part day) i).0 (g.blocks_good.rows i l)
