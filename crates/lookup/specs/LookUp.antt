-- The look-up gives back the rows of a named section as that part of the caller's file, without its count, for a day file that reads
-- without fault. An empty section gives an empty part and no refusal; whether the look-up is refused may be asked separately from the part.
-- Assumes nothing.
use Rattle.std.specs.Prelude.{ℕ, ◌+◌, Bool, true, false, List, [], ◌∷◌, eqb}
use Rattle.stages.specs.Stage.{Stage, once, place, first_fault, answer}
use Rattle.sections.specs.Section.{between, rows}
use Rattle.rows.specs.Rows.{row_size}
use Rattle.rows.specs.declared.Kind.TheVariants.{Periods, Zones, Lines, Steps, Blocks}
use Rattle.parts.specs.Of.{zones_at, lines_at, steps_at, blocks_at}
use Rattle.day.specs.Day.{periods, zones_part, lines_part, steps_part, blocks_part, day_stages}

abbrev pub pick : {A : Type 0} → Bool → A → A → A
pick true a b = a
pick false a b = b

-- the rows of a section, by its number
abbrev pub rows_of : ℕ → List ℕ → List ℕ
rows_of section day =
    pick (eqb section 1) (rows (row_size Periods 0) day)
    (pick (eqb section 2) (rows (row_size Zones (periods day)) (zones_part day))
    (pick (eqb section 3) (rows (row_size Lines (periods day)) (lines_part day))
    (pick (eqb section 4) (rows (row_size Steps (periods day)) (steps_part day))
    (pick (eqb section 5) (rows (row_size Blocks (periods day)) (blocks_part day))
    []))))

-- where they start in the file
abbrev pub rows_at : ℕ → List ℕ → ℕ
rows_at section day =
    pick (eqb section 1) 2
    (pick (eqb section 2) (2 + zones_at day)
    (pick (eqb section 3) (2 + lines_at day)
    (pick (eqb section 4) (2 + steps_at day)
    (pick (eqb section 5) (2 + blocks_at day)
    0))))

-- 19, a section that is not 1 to 5, comes first; then 1 to 4
abbrev pub look_up_stages : ℕ → List ℕ → List Stage
look_up_stages section day = once 19 (place 0 0) (between 1 5 section) ∷ day_stages day

-- refused, it gives an empty part
abbrev pub look_up : ℕ → List ℕ → List ℕ
look_up section day = answer (rows_of section day) (λ r. []) (first_fault (look_up_stages section day))

-- where it starts in the file; an empty part that is a refusal's, at the file's start
abbrev pub look_up_at : ℕ → List ℕ → ℕ
look_up_at section day = answer (rows_at section day) (λ r. 0) (first_fault (look_up_stages section day))
