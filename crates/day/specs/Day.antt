-- The day file: five sections, and nothing after them. Assumes nothing.
use Rattle.std.specs.Prelude.{ℕ, List, ◌++◌}
use Rattle.stages.specs.Stage.{Stage}
use Rattle.sections.specs.Section.{Numbers, count, after, ended}
use Rattle.limits.specs.Limits.{most_periods, most_zones, most_lines, most_steps, most_blocks}
use Rattle.rows.specs.Rows.{row_size}
use Rattle.rows.specs.declared.Kind.{Kind}
use Rattle.rows.specs.declared.Kind.TheVariants.{Periods, Zones, Lines, Steps, Blocks}
use Rattle.reader.specs.Reader.{file_section}
use Rattle.day.specs.declared.Counts.{Counts}
use Rattle.std.specs.Prelude.{Result}
use Rattle.stages.specs.declared.Refusal.{Refusal}
use Rattle.stages.specs.Stage.{judged}

-- ---- the parts of a day file: each starts where the one before it ended

abbrev pub periods : List ℕ → ℕ
periods day = count day

abbrev pub zones_part : List ℕ → List ℕ
zones_part day = after (row_size Periods 0) day

abbrev pub lines_part : List ℕ → List ℕ
lines_part day = after (row_size Zones (periods day)) (zones_part day)

abbrev pub steps_part : List ℕ → List ℕ
steps_part day = after (row_size Lines (periods day)) (lines_part day)

abbrev pub blocks_part : List ℕ → List ℕ
blocks_part day = after (row_size Steps (periods day)) (steps_part day)

abbrev pub end_part : List ℕ → List ℕ
end_part day = after (row_size Blocks (periods day)) (blocks_part day)

abbrev pub zones : List ℕ → ℕ
zones day = count (zones_part day)

abbrev pub counts : List ℕ → Counts
counts day = record {
  periods = periods day;
  zones = zones day;
  lines = count (lines_part day);
  steps = count (steps_part day);
  blocks = count (blocks_part day);
}

-- ---- refusals 1 to 4, in the order in which they are looked for

-- 1: the file ends inside a section's count or rows. 2: a count beyond its limits. 3: a row that breaks its section's rule
abbrev pub day_numbers : Numbers
day_numbers = record { cut = 1; beyond = 2; bad = 3 }

-- the section's number, the kind of its rows, how many it has at least and at most; the day's periods and zones; the file from its count on
abbrev pub day_section : ℕ → Kind → ℕ → ℕ → ℕ → ℕ → List ℕ → List Stage
day_section = file_section day_numbers

-- 4: bytes after the last section
unfoldable pub day_stages : List ℕ → List Stage
day_stages day =
    day_section 1 Periods 1 most_periods 0 0 day
    ++ day_section 2 Zones 1 most_zones (periods day) 0 (zones_part day)
    ++ day_section 3 Lines 0 most_lines (periods day) (zones day) (lines_part day)
    ++ day_section 4 Steps 0 most_steps (periods day) (zones day) (steps_part day)
    ++ day_section 5 Blocks 0 most_blocks (periods day) (zones day) (blocks_part day)
    ++ ended 4 (end_part day)

-- ---- what the reader of a day file answers

-- the number and the place of the first fault, or the counts of a day file that reads without fault
abbrev pub day_file : List ℕ → Result Counts Refusal
day_file day = judged (counts day) (day_stages day)
