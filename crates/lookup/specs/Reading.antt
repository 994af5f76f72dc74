-- What the look-up's reading of the day file answers, and what follows for the part and the refusal. Assumes nothing.
use Rattle.std.specs.Prelude.{ℕ, ◌+◌, ◌≡◌, List, []}
use Rattle.std.proofs.Common.{add_assoc, sym, ap, ◌∙◌}
use Rattle.stages.specs.Stage.{first_fault}
use Rattle.stages.proofs.StageLaws.{means, result_fault}
use Rattle.stages.specs.declared.Place.{Place}
use Rattle.sections.specs.Section.{onward}
use Rattle.day.specs.declared.Counts.{Counts}
use Rattle.day.specs.Day.{counts}
use Rattle.day.specs.Good.{day_clean}
use Rattle.day.specs.Frame.{framed_day}
use Rattle.parts.specs.Of.{OfDay}
use Rattle.lookup.specs.LookUp.{rows_of, rows_at, look_up_stages, look_up, look_up_at}
use Rattle.std.specs.Prelude.{Result, Ok, Err}
use Rattle.stages.specs.declared.Refusal.{Refusal}
use Rattle.stages.specs.Stage.{clean, fault_of, judged}

abbrev pub day_file_for : ℕ → List ℕ → Result Counts Refusal
day_file_for section day = judged (counts day) (look_up_stages section day)

module _ (section : ℕ) (day : List ℕ) where
  -- the number and the place of the answer are those of the first fault
  fault_for : {r : Result Counts Refusal} → day_file_for section day ≡ r → first_fault (look_up_stages section day) ≡ fault_of r
  fault_for e = sym (result_fault (counts day) (first_fault (look_up_stages section day))) ∙ ap fault_of e

  pub refused_for : {k : ℕ} {p : Place} → day_file_for section day ≡ Err (k, p) → first_fault (look_up_stages section day) ≡ Err (k, p)
  refused_for e = fault_for e

  pub clean_for : {c : Counts} → day_file_for section day ≡ Ok c → first_fault (look_up_stages section day) ≡ clean
  clean_for e = fault_for e

  -- a good answer is that of a day file that reads without fault, with its counts
  pub of_day : {c : Counts} → day_file_for section day ≡ Ok c → OfDay day c
  of_day {c} e =
      let same : Ok (counts day) ≡ Ok c = rw (clean_for e) at e in
      record { framed = framed_day ((day_clean day).0 ((means (look_up_stages section day) clean).0 (clean_for e)).1); counted = cc }

  -- the part, and where it stands in the file
  pub refused_part : {k : ℕ} {p : Place} → day_file_for section day ≡ Err (k, p) → ([] ≡ look_up section day) × (look_up_at section day ≡ 0)
  refused_part e = (rw (refused_for e), rw (refused_for e))

  pub found_part : {c : Counts} {x : List ℕ} → day_file_for section day ≡ Ok c → x ≡ rows_of section day → x ≡ look_up section day
  found_part e q = rw (clean_for e) q

  pub found_at : {c : Counts} (file : ℕ × ℕ) {x : ℕ × ℕ} → day_file_for section day ≡ Ok c → x ≡ onward (rows_at section day) file →
      x ≡ onward (look_up_at section day) file
  found_at file e q = rw (clean_for e) q

-- the rows of a section by its number, and where they start
module _ (day : List ℕ) {s k : ℕ} (e : s ≡ k) where
  pub by_number : {x : List ℕ} → x ≡ rows_of k day → x ≡ rows_of s day
  by_number q = q ∙ ap (λ (n : ℕ). rows_of n day) (sym e)

  pub at_number : (file : ℕ × ℕ) {x : ℕ × ℕ} → x ≡ onward (rows_at k day) file → x ≡ onward (rows_at s day) file
  at_number file q = q ∙ ap (λ (n : ℕ). onward (rows_at n day) file) (sym e)

-- two bytes on from a part that stands in the file
pub behind_count : (at : ℕ) (file : ℕ × ℕ) {part x : ℕ × ℕ} → part ≡ onward at file → x ≡ onward 2 part → x ≡ onward (2 + at) file
behind_count at file p q = rw (q, p, add_assoc 2 at file.1)
