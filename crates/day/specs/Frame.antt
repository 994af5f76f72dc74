-- The frame of a day file: its sections' counts, their limits, room for all rows, and nothing after them. With rows that obey their rules
-- it reads without fault. Assumes nothing.
use Rattle.std.specs.Prelude.{ℕ, ◌<◌, ◌≡◌, true, List, length}
use Rattle.stages.specs.First.{every}
use Rattle.limits.specs.Limits.{most_periods, most_zones, most_lines, most_steps, most_blocks}
use Rattle.sections.specs.Section.{count}
use Rattle.sections.specs.Good.{head, with_rows_lem}
use Rattle.rows.specs.Rows.{field_count, field_ok}
use Rattle.rows.specs.declared.Kind.{Kind}
use Rattle.rows.specs.declared.Kind.TheVariants.{Periods, Zones, Lines, Steps, Blocks}
use Rattle.reader.specs.Reader.{GoodRows, HeadRows}
use Rattle.day.specs.Day.{periods, zones, zones_part, lines_part, steps_part, blocks_part, end_part, counts}
use Rattle.day.specs.Good.{GoodDay, InLimits}

pub record FramedDay (day : List ℕ) : Type 0 where
  pub periods_head : HeadRows Periods 1 most_periods 0 day
  pub zones_head : HeadRows Zones 1 most_zones (periods day) (zones_part day)
  pub lines_head : HeadRows Lines 0 most_lines (periods day) (lines_part day)
  pub steps_head : HeadRows Steps 0 most_steps (periods day) (steps_part day)
  pub blocks_head : HeadRows Blocks 0 most_blocks (periods day) (blocks_part day)
  pub no_more : length (end_part day) ≡ 0

pub framed_day : {day : List ℕ} → GoodDay day → FramedDay day
framed_day g = record {
  periods_head = head g.periods_good;
  zones_head = head g.zones_good;
  lines_head = head g.lines_good;
  steps_head = head g.steps_good;
  blocks_head = head g.blocks_good;
  no_more = g.no_more;
}

module _ {day : List ℕ} (f : FramedDay day) where
  pub framed_limits : InLimits (counts day)
  framed_limits = record {
    periods_least = f.periods_head.at_least;
    periods_most = f.periods_head.at_most;
    zones_least = f.zones_head.at_least;
    zones_most = f.zones_head.at_most;
    lines_most = f.lines_head.at_most;
    steps_most = f.steps_head.at_most;
    blocks_most = f.blocks_head.at_most;
  }

  -- each row of a section obeys its rule
  abbrev pub RowsObey : Kind → List ℕ → Type 0
  RowsObey kind part = (i : ℕ) → i < count part → every (field_count kind (periods day)) (field_ok kind (periods day) (zones day) part i) ≡ true

  pub good_day : GoodRows Periods 1 most_periods 0 0 day → GoodRows Zones 1 most_zones (periods day) 0 (zones_part day) →
      RowsObey Lines (lines_part day) → RowsObey Steps (steps_part day) → RowsObey Blocks (blocks_part day) → GoodDay day
  good_day p z l s b = record {
    periods_good = p;
    zones_good = z;
    lines_good = with_rows_lem f.lines_head l;
    steps_good = with_rows_lem f.steps_head s;
    blocks_good = with_rows_lem f.blocks_head b;
    no_more = f.no_more;
  }
