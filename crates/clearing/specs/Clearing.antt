-- The clearing file: four sections, with the counts that the day file asks, and nothing after them. Assumes nothing.
use Rattle.std.specs.Prelude.{ℕ, ◌*◌, List, ◌++◌}
use Rattle.stages.specs.Stage.{Stage}
use Rattle.sections.specs.Section.{Numbers, after, ended}
use Rattle.rows.specs.Rows.{row_size}
use Rattle.rows.specs.declared.Kind.{Kind}
use Rattle.rows.specs.declared.Kind.TheVariants.{Prices, Flows, Volumes, Ratios}
use Rattle.reader.specs.Reader.{file_section}
use Rattle.day.specs.Day.{counts, day_stages}
use Rattle.day.specs.declared.Counts.{Counts}
use Rattle.std.specs.Prelude.{Result}
use Rattle.stages.specs.declared.Refusal.{Refusal}
use Rattle.stages.specs.Stage.{judged}

-- ---- the parts of a clearing file: each starts where the one before it ended

abbrev pub flows_part : List ℕ → List ℕ
flows_part clearing = after (row_size Prices 0) clearing

abbrev pub volumes_part : List ℕ → List ℕ
volumes_part clearing = after (row_size Flows 0) (flows_part clearing)

abbrev pub ratios_part : List ℕ → List ℕ
ratios_part clearing = after (row_size Volumes 0) (volumes_part clearing)

abbrev pub end_part : List ℕ → List ℕ
end_part clearing = after (row_size Ratios 0) (ratios_part clearing)

-- ---- refusals 5 to 8, in the order in which they are looked for

-- 5: the file ends inside a section's count or rows. 6: a count that is not the one the day file asks. 7: a field outside its range
abbrev pub clearing_numbers : Numbers
clearing_numbers = record { cut = 5; beyond = 6; bad = 7 }

-- the section's number, the kind of its rows, how many the day file asks; the file from its count on
abbrev pub clearing_section : ℕ → Kind → ℕ → List ℕ → List Stage
clearing_section number kind asked = file_section clearing_numbers number kind asked asked 0 0

-- 8: bytes after the last section
unfoldable pub clearing_stages : Counts → List ℕ → List Stage
clearing_stages c clearing =
    clearing_section 1 Prices (c.zones * c.periods) clearing
    ++ clearing_section 2 Flows (c.lines * c.periods) (flows_part clearing)
    ++ clearing_section 3 Volumes c.steps (volumes_part clearing)
    ++ clearing_section 4 Ratios c.blocks (ratios_part clearing)
    ++ ended 8 (end_part clearing)

-- ---- both files: the day file before the clearing file

abbrev pub file_stages : List ℕ → List ℕ → List Stage
file_stages day clearing = day_stages day ++ clearing_stages (counts day) clearing

-- the number and the place of the first fault, or the counts of two files that read without fault
abbrev pub files : List ℕ → List ℕ → Result Counts Refusal
files day clearing = judged (counts day) (file_stages day clearing)
