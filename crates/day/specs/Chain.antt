-- The stages and the counts of a day file from each section on, as the readers hand on what is left of the file. Assumes nothing.
use Rattle.std.specs.Prelude.{ℕ, List, ◌++◌}
use Rattle.stages.specs.Stage.{Stage}
use Rattle.sections.specs.Section.{count, after, ended}
use Rattle.limits.specs.Limits.{most_zones, most_lines, most_steps, most_blocks}
use Rattle.rows.specs.Rows.{row_size}
use Rattle.rows.specs.declared.Kind.TheVariants.{Zones, Lines, Steps, Blocks}
use Rattle.day.specs.Day.{day_section}
use Rattle.day.specs.declared.Counts.{Counts}

-- the stages
abbrev pub from_blocks : ℕ → ℕ → List ℕ → List Stage
from_blocks periods zones part = day_section 5 Blocks 0 most_blocks periods zones part ++ ended 4 (after (row_size Blocks periods) part)

abbrev pub from_steps : ℕ → ℕ → List ℕ → List Stage
from_steps periods zones part = day_section 4 Steps 0 most_steps periods zones part ++ from_blocks periods zones (after (row_size Steps periods) part)

abbrev pub from_lines : ℕ → ℕ → List ℕ → List Stage
from_lines periods zones part = day_section 3 Lines 0 most_lines periods zones part ++ from_steps periods zones (after (row_size Lines periods) part)

abbrev pub from_zones : ℕ → List ℕ → List Stage
from_zones periods part = day_section 2 Zones 1 most_zones periods 0 part ++ from_lines periods (count part) (after (row_size Zones periods) part)

-- the counts
abbrev pub counts_of : ℕ → ℕ → ℕ → ℕ → ℕ → Counts
counts_of periods zones lines steps blocks = record { periods = periods; zones = zones; lines = lines; steps = steps; blocks = blocks }

abbrev pub counts_blocks : ℕ → ℕ → ℕ → ℕ → List ℕ → Counts
counts_blocks periods zones lines steps part = counts_of periods zones lines steps (count part)

abbrev pub counts_steps : ℕ → ℕ → ℕ → List ℕ → Counts
counts_steps periods zones lines part = counts_blocks periods zones lines (count part) (after (row_size Steps periods) part)

abbrev pub counts_lines : ℕ → ℕ → List ℕ → Counts
counts_lines periods zones part = counts_steps periods zones (count part) (after (row_size Lines periods) part)

abbrev pub counts_zones : ℕ → List ℕ → Counts
counts_zones periods part = counts_lines periods (count part) (after (row_size Zones periods) part)
