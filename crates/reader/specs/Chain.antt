-- A section's answer taken apart. Assumes nothing.
use Rattle.std.specs.Prelude.{ℕ, ◌≡◌, ◌↔◌, List, ◌++◌}
use Rattle.std.proofs.Common.{◌∙◌, inl, inr, ⊎_elim}
use Rattle.stages.specs.Stage.{Stage, field_place, Means, clean-++, first_fault, answer, judged}
use Rattle.stages.specs.Lists.{broken-++}
use Rattle.sections.specs.Section.{Numbers, count, after}
use Rattle.sections.specs.Answer.{Read, reading_rows, section_read, then_refused, then_good}
use Rattle.sections.specs.Good.{OwnNumber}
use Rattle.sections.proofs.GoodLaws.{section_clean, section_bad}
use Rattle.rows.specs.Rows.{row_size, field_count, field_ok}
use Rattle.rows.specs.declared.Kind.{Kind}
use Rattle.reader.specs.Reader.{file_section, GoodRows, BadFrom, rows_at, reading_at}
use Rattle.std.specs.Prelude.{Result, Ok, Err}
use Rattle.stages.specs.declared.Refusal.{Refusal}
use Rattle.stages.specs.Stage.{clean}

module _ (numbers : Numbers) (number : ℕ) (kind : Kind) (least most periods zones : ℕ) (part : List ℕ) where
  -- a section that reads without fault has its count of rows, and they lie within the part
  pub reading_read : {n : ℕ} → reading_at numbers number kind least most periods zones part ≡ Ok n → Read least most (row_size kind periods) part n
  reading_read {n} e =
      section_read least most (row_size kind periods) (field_count kind periods) (field_ok kind periods zones part) part n
      (reading_rows numbers number (rows_at kind least most periods zones part) n e)

  -- all stages are clean, from this section on
  pub then_clean : (rest : List Stage) →
      Means (file_section numbers number kind least most periods zones part ++ rest) clean ↔ (GoodRows kind least most periods zones part × Means rest clean)
  then_clean rest =
      let c = clean-++ (file_section numbers number kind least most periods zones part) rest in
      let g = section_clean numbers number least most (row_size kind periods) (field_count kind periods) (field_ok kind periods zones part) part in
      (λ m. (g.0 (c.0 m).0, (c.0 m).1), λ m. c.1 (g.1 m.0, m.1))

  -- a stage is broken by a field, from this section on
  pub then_bad : OwnNumber numbers → (rest : List Stage) (s row field : ℕ) {Later : Type 0} →
      Means rest (Err (numbers.bad, field_place s row field)) ↔ Later →
      Means (file_section numbers number kind least most periods zones part ++ rest) (Err (numbers.bad, field_place s row field))
      ↔ BadFrom s row field number kind least most periods zones part Later
  then_bad own rest s row field later =
      let c = broken-++ (file_section numbers number kind least most periods zones part) rest numbers.bad (field_place s row field) in
      let g = section_clean numbers number least most (row_size kind periods) (field_count kind periods) (field_ok kind periods zones part) part in
      let b = section_bad numbers number least most (row_size kind periods) (field_count kind periods) (field_ok kind periods zones part) part own s row field in (
        λ m. ⊎_elim (λ x. inl (b.0 x)) (λ y. inr (g.0 y.0, later.0 y.1)) (c.0 m),
        λ m. c.1 (⊎_elim (λ x. inl (b.1 x)) (λ y. inr (g.1 y.0, later.1 y.1)) m),
      )

  -- `good` and `rest` are what comes after the section: the answer where all is good, and the stages, by what is left of the file and the
  -- section's own count
  module _ {A : Type 0} (bad : Refusal → A) (good : List ℕ → ℕ → A) (rest : List ℕ → ℕ → List Stage) where
    abbrev pub answered : A
    answered =
        let left = after (row_size kind periods) part in
        answer (good left (count part)) bad (first_fault (file_section numbers number kind least most periods zones part ++ rest left (count part)))

    -- a fault returns at once
    pub fault_answers : {r : Refusal} → reading_at numbers number kind least most periods zones part ≡ Err r → bad r ≡ answered
    fault_answers {r} e =
        rw (then_refused numbers number least most (row_size kind periods) (field_count kind periods) (field_ok kind periods zones part) part
        (rest (after (row_size kind periods) part) (count part)) r.0 r.1 e)

    -- what is left of the file is handed on
    pub rest_answers : {n : ℕ} {left : List ℕ} {r : A} → reading_at numbers number kind least most periods zones part ≡ Ok n →
        left ≡ after (row_size kind periods) part → r ≡ answer (good left n) bad (first_fault (rest left n)) → r ≡ answered
    rest_answers {n} e l q =
        q ∙ rw (
          l,
          ← (reading_read e).counted,
          then_good numbers number least most (row_size kind periods) (field_count kind periods) (field_ok kind periods zones part) part
              (rest (after (row_size kind periods) part) (count part)) n e,
        )

  -- the same of a result
  module _ {A : Type 0} (good : List ℕ → ℕ → A) (rest : List ℕ → ℕ → List Stage) where
    abbrev pub result : Result A Refusal
    result = answered Err (λ left n. Ok (good left n)) rest

    pub fault_returns : {r : Refusal} → reading_at numbers number kind least most periods zones part ≡ Err r → Err r ≡ result
    fault_returns = fault_answers Err (λ left n. Ok (good left n)) rest

    pub handed_on : {n : ℕ} {left : List ℕ} {r : Result A Refusal} → reading_at numbers number kind least most periods zones part ≡ Ok n →
        left ≡ after (row_size kind periods) part → r ≡ judged (good left n) (rest left n) → r ≡ result
    handed_on = rest_answers Err (λ left n. Ok (good left n)) rest
