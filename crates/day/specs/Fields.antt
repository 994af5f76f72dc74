-- Which field a refusal 3 names, as a sentence. Assumes nothing.
use Rattle.std.specs.Prelude.{ℕ, ◌↔◌, List}
use Rattle.std.proofs.Common.{arith}
use Rattle.stages.specs.Stage.{Means, field_place}
use Rattle.sections.specs.Section.{ended}
use Rattle.sections.specs.Good.{OwnNumber, ended_other}
use Rattle.limits.specs.Limits.{most_periods, most_zones, most_lines, most_steps, most_blocks}
use Rattle.rows.specs.declared.Kind.TheVariants.{Periods, Zones, Lines, Steps, Blocks}
use Rattle.reader.specs.Reader.{BadFrom}
use Rattle.reader.specs.Chain.{then_bad}
use Rattle.day.specs.Chain.{from_zones, from_lines, from_steps, from_blocks}
use Rattle.day.specs.Day.{periods, zones, zones_part, lines_part, steps_part, blocks_part, end_part, day_numbers, day_stages}
use Rattle.std.specs.Prelude.{Err}

-- the field of the row of the section s is the first of the day file that fails its test: the sections before it read without fault, and its
-- own count, limit and room are good
abbrev pub DayField : List ℕ → ℕ → ℕ → ℕ → Type 0
DayField day s row field =
    BadFrom s row field 1 Periods 1 most_periods 0 0 day
    (BadFrom s row field 2 Zones 1 most_zones (periods day) 0 (zones_part day)
    (BadFrom s row field 3 Lines 0 most_lines (periods day) (zones day) (lines_part day)
    (BadFrom s row field 4 Steps 0 most_steps (periods day) (zones day) (steps_part day)
    (BadFrom s row field 5 Blocks 0 most_blocks (periods day) (zones day) (blocks_part day) ⊥))))

pub day_field : (day : List ℕ) (s row field : ℕ) → Means (day_stages day) (Err (3, field_place s row field)) ↔ DayField day s row field
unfolding day_stages
day_field day s row field =
    let h = periods day in
    let z = zones day in
    let own : OwnNumber day_numbers = (λ e. omega (arith, e), λ e. omega (arith, e)) in
    let past_end = ended_other 4 (end_part day) 3 (field_place s row field) (λ e. omega (arith, e)) in
    then_bad day_numbers 1 Periods 1 most_periods 0 0 day own (from_zones h (zones_part day)) s row field
    (then_bad day_numbers 2 Zones 1 most_zones h 0 (zones_part day) own (from_lines h z (lines_part day)) s row field
    (then_bad day_numbers 3 Lines 0 most_lines h z (lines_part day) own (from_steps h z (steps_part day)) s row field
    (then_bad day_numbers 4 Steps 0 most_steps h z (steps_part day) own (from_blocks h z (blocks_part day)) s row field
    (then_bad day_numbers 5 Blocks 0 most_blocks h z (blocks_part day) own (ended 4 (end_part day)) s row field past_end))))
