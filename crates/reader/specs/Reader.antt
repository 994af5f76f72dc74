-- A section of either file, by the kind of its rows. Assumes nothing.
use Rattle.std.specs.Prelude.{ℕ, ◌≡◌, ◌⊎◌, List}
use Rattle.stages.specs.Stage.{Stage}
use Rattle.sections.specs.Section.{Numbers, section}
use Rattle.sections.specs.Good.{GoodSection, Head, FirstBad}
use Rattle.sections.specs.Answer.{reading_of, section_of}
use Rattle.sections.specs.declared.SectionFault.{SectionFault}
use Rattle.rows.specs.Rows.{row_size, field_count, field_ok}
use Rattle.rows.specs.declared.Kind.{Kind}
use Rattle.std.specs.Prelude.{Result}
use Rattle.stages.specs.declared.Refusal.{Refusal}

-- the section with this number, with so many rows, in a day of so many periods and zones
abbrev pub file_section : Numbers → ℕ → Kind → ℕ → ℕ → ℕ → ℕ → List ℕ → List Stage
file_section numbers number kind least most periods zones part =
    section numbers number least most (row_size kind periods) (field_count kind periods) (field_ok kind periods zones part) part

-- it reads without fault
abbrev pub GoodRows : Kind → ℕ → ℕ → ℕ → ℕ → List ℕ → Type 0
GoodRows kind least most periods zones part = GoodSection least most (row_size kind periods) (field_count kind periods) (field_ok kind periods zones part) part

-- its head alone is without fault
abbrev pub HeadRows : Kind → ℕ → ℕ → ℕ → List ℕ → Type 0
HeadRows kind least most periods part = Head least most (row_size kind periods) part

-- the field is the first that fails its test, in the first row that has one
abbrev pub BadField : Kind → ℕ → ℕ → ℕ → ℕ → List ℕ → ℕ → ℕ → Type 0
BadField kind least most periods zones part =
    FirstBad least most (row_size kind periods) (field_count kind periods) (field_ok kind periods zones part) part

-- one section after the other: the first such field is in this section, which has the number s, or this one reads without fault and it is
-- in a later one
module _ (s row field : ℕ) where
  abbrev pub BadFrom : ℕ → Kind → ℕ → ℕ → ℕ → ℕ → List ℕ → Type 0 → Type 0
  BadFrom number kind least most periods zones part later =
      ((number ≡ s) × BadField kind least most periods zones part row field) ⊎ (GoodRows kind least most periods zones part × later)

-- its reader's answer, and the same with the number and the place of a fault
abbrev pub rows_at : Kind → ℕ → ℕ → ℕ → ℕ → List ℕ → Result ℕ SectionFault
rows_at kind least most periods zones part = section_of least most (row_size kind periods) (field_count kind periods) (field_ok kind periods zones part) part

abbrev pub reading_at : Numbers → ℕ → Kind → ℕ → ℕ → ℕ → ℕ → List ℕ → Result ℕ Refusal
reading_at numbers number kind least most periods zones part = reading_of numbers number (rows_at kind least most periods zones part)
