-- What the reader of a section answers, and that its answer is the first fault of the section's stages. Assumes nothing.
use Rattle.std.specs.Prelude.{ℕ, ◌+◌, ◌*◌, ◌≤◌, ◌≡◌, refl, Bool, true, false, List, [], ◌∷◌, ◌++◌, leb, length, drop}
use Rattle.std.proofs.Common.{arith, ◌∙◌, ap, leb-true}
use Rattle.stages.specs.First.{both}
use Rattle.stages.specs.Stage.{Stage, once, place, field_place, fault_at, first_fault, or_fault}
use Rattle.stages.proofs.StageLaws.{fault-++}
use Rattle.stages.specs.Table.{first_cell}
use Rattle.sections.specs.Section.{Numbers, between, count, table, section, after}
use Rattle.stages.specs.declared.Place.{Place}
use Rattle.sections.specs.declared.SectionFault.{SectionFault}
use Rattle.sections.specs.declared.SectionFault.TheVariants.{CutOff, Beyond, BadRow}
use Rattle.std.specs.Prelude.{Option, Some, None, Result, Ok, Err}
use Rattle.stages.specs.declared.Refusal.{Refusal}
use Rattle.stages.specs.Stage.{Fault, clean, fault_of}
use Rattle.stages.specs.Number.{number as code}
use Rattle.sections.specs.declared.Faults.{Faults}

-- ---- the number, the section, the row and the field of each answer

abbrev pub numbers_of : Faults → Numbers
numbers_of faults = record { cut = code faults.cut; beyond = code faults.beyond; bad = code faults.bad }

abbrev pub reading_of : Numbers → ℕ → Result ℕ SectionFault → Result ℕ Refusal
reading_of numbers number (Ok n) = Ok n
reading_of numbers number (Err CutOff) = Err (numbers.cut, place number 0)
reading_of numbers number (Err Beyond) = Err (numbers.beyond, place number 0)
reading_of numbers number (Err (BadRow i f)) = Err (numbers.bad, field_place number i f)

-- ---- the answers

abbrev pub pick : Bool → Result ℕ SectionFault → Result ℕ SectionFault → Result ℕ SectionFault
pick true a b = a
pick false a b = b

-- the count, its limit and room for all rows
abbrev pub head_of : ℕ → ℕ → ℕ → List ℕ → Result ℕ SectionFault
head_of least most size part =
    pick (leb 2 (length part))
    (pick (between least most (count part)) (pick (leb (2 + size * count part) (length part)) (Ok (count part)) (Err CutOff)) (Err Beyond))
    (Err CutOff)

-- the rows, by the first field of the first that is bad
abbrev pub rows_by : ℕ → Option (ℕ × ℕ) → Result ℕ SectionFault
rows_by n (Some (i, f)) = Err (BadRow i f)
rows_by n None = Ok n

abbrev pub with_rows : ℕ → (ℕ → ℕ → Bool) → Result ℕ SectionFault → Result ℕ SectionFault
with_rows fields ok (Ok n) = rows_by n (first_cell n fields ok)
with_rows fields ok (Err e) = Err e

unfoldable pub section_of : ℕ → ℕ → ℕ → ℕ → (ℕ → ℕ → Bool) → List ℕ → Result ℕ SectionFault
section_of least most size fields ok part = with_rows fields ok (head_of least most size part)

-- ---- an answer is the first fault of the stages

-- what is refused is not read
pub not_read : {A E B : Type 0} {e : E} {n : A} → Err e ≡ Ok n → B
not_read q = let z : ◌≡◌ {A = ℕ} 0 1 = cc in absurd (omega arith)

module _ (numbers : Numbers) (number : ℕ) where
  refused_fault : (x : Result ℕ SectionFault) (k : ℕ) (p : Place) (f : Fault) → reading_of numbers number x ≡ Err (k, p) → or_fault (fault_of (reading_of numbers number x)) f ≡ Err (k, p)
  refused_fault (Ok n) k p f e = let z : ◌≡◌ {A = ℕ} 0 1 = cc in absurd (omega arith)
  refused_fault (Err CutOff) k p f e = cc
  refused_fault (Err Beyond) k p f e = cc
  refused_fault (Err (BadRow i j)) k p f e = cc

  pub reading_rows : (x : Result ℕ SectionFault) (n : ℕ) → reading_of numbers number x ≡ Ok n → x ≡ Ok n
  reading_rows (Ok m) n e = cc
  reading_rows (Err CutOff) n e = not_read e
  reading_rows (Err Beyond) n e = not_read e
  reading_rows (Err (BadRow i f)) n e = not_read e

module _ (numbers : Numbers) (number n fields : ℕ) (ok : ℕ → ℕ → Bool) where
  abbrev stages_of : Bool → Bool → Bool → List Stage
  stages_of a b c =
      once numbers.cut (place number 0) a
      ∷ once numbers.beyond (place number 0) b
      ∷ once numbers.cut (place number 0) c
      ∷ table numbers.bad number n fields ok
      ∷ []

  rows_fault : (s : Option (ℕ × ℕ)) → fault_at (table numbers.bad number n fields ok) s clean ≡ fault_of (reading_of numbers number (rows_by n s))
  rows_fault (Some (i, f)) = refl
  rows_fault None = refl

  by_tests : (a b c : Bool) →
      first_fault (stages_of a b c) ≡ fault_of (reading_of numbers number (with_rows fields ok (pick a (pick b (pick c (Ok n) (Err CutOff)) (Err Beyond)) (Err CutOff))))
  by_tests false b c = refl
  by_tests true false c = refl
  by_tests true true false = refl
  by_tests true true true = rows_fault (first_cell n fields ok)

module _ (numbers : Numbers) (number least most size fields : ℕ) (ok : ℕ → ℕ → Bool) (part : List ℕ) where
  pub section_fault : first_fault (section numbers number least most size fields ok part) ≡ fault_of (reading_of numbers number (section_of least most size fields ok part))
  unfolding section_of
  section_fault =
      by_tests numbers number (count part) fields ok (leb 2 (length part)) (between least most (count part)) (leb (2 + size * count part) (length part))

  -- a section and what comes after it
  pub section_then : (rest : List Stage) →
      first_fault (section numbers number least most size fields ok part ++ rest)
      ≡ or_fault (fault_of (reading_of numbers number (section_of least most size fields ok part))) (first_fault rest)
  section_then rest = fault-++ (section numbers number least most size fields ok part) rest ∙ rw section_fault

  -- refused: that is the first fault, whatever comes after
  pub then_refused : (rest : List Stage) (k : ℕ) (p : Place) → reading_of numbers number (section_of least most size fields ok part) ≡ Err (k, p) →
      first_fault (section numbers number least most size fields ok part ++ rest) ≡ Err (k, p)
  then_refused rest k p e = section_then rest ∙ refused_fault numbers number (section_of least most size fields ok part) k p (first_fault rest) e

  -- good: the first fault is that of what comes after
  pub then_good : (rest : List Stage) (n : ℕ) → reading_of numbers number (section_of least most size fields ok part) ≡ Ok n →
      first_fault (section numbers number least most size fields ok part ++ rest) ≡ first_fault rest
  then_good rest n e = section_then rest ∙ rw (reading_rows numbers number (section_of least most size fields ok part) n e)

-- ---- what an answer with n rows tells: n is the count, within its limits, and there is room for all rows

pub record Read (least most size : ℕ) (part : List ℕ) (n : ℕ) : Type 0 where
  pub counted : count part ≡ n
  pub least_is : least ≤ n
  pub most_is : n ≤ most
  pub room : 2 + size * n ≤ length part

pub head_read : (least most size : ℕ) (part : List ℕ) (n : ℕ) → head_of least most size part ≡ Ok n → Read least most size part n
head_read least most size part n e = by (leb 2 (length part)) (between least most (count part)) (leb (2 + size * count part) (length part)) refl refl e
  where
    by : (a b c : Bool) → between least most (count part) ≡ b → leb (2 + size * count part) (length part) ≡ c →
        pick a (pick b (pick c (Ok (count part)) (Err CutOff)) (Err Beyond)) (Err CutOff) ≡ Ok n → Read least most size part n
    by true true true p q r =
        let m : count part ≡ n = cc in
        let l = (both (leb least (count part)) (leb (count part) most)).0 p in
        record {
          counted = m;
          least_is = rw m at (leb-true least (count part) l.0);
          most_is = rw m at (leb-true (count part) most l.1);
          room = rw m at (leb-true (2 + size * count part) (length part) q);
        }
    by true true false p q r = not_read r
    by true false c p q r = not_read r
    by false b c p q r = not_read r

pub after_is : (part : List ℕ) {size size' n : ℕ} → size ≡ size' → count part ≡ n → drop (2 + size * n) part ≡ after size' part
after_is part e f = rw (e, ← f)

-- a section that reads without fault has as many rows as its head says
found_none : (n m : ℕ) (s : Option (ℕ × ℕ)) → rows_by n s ≡ Ok m → n ≡ m
found_none n m (Some (i, f)) e = not_read e
found_none n m None e = cc

head_of_lem : (fields : ℕ) (ok : ℕ → ℕ → Bool) (x : Result ℕ SectionFault) (n : ℕ) → with_rows fields ok x ≡ Ok n → x ≡ Ok n
head_of_lem fields ok (Ok m) n e = ap Ok (found_none m n (first_cell m fields ok) e)
head_of_lem fields ok (Err e) n q = not_read q

pub head_same : (least most : ℕ) (part : List ℕ) {x : Result ℕ SectionFault} {size size' : ℕ} → size ≡ size' → x ≡ head_of least most size part →
    x ≡ head_of least most size' part
head_same least most part f e = e ∙ rw f

-- the answer of a reader that has read the head
pub head_section : (least most size fields : ℕ) (ok : ℕ → ℕ → Bool) (part : List ℕ) {x : Result ℕ SectionFault} → x ≡ head_of least most size part →
    with_rows fields ok x ≡ section_of least most size fields ok part
unfolding section_of
head_section least most size fields ok part e = ap (with_rows fields ok) e

pub section_read : (least most size fields : ℕ) (ok : ℕ → ℕ → Bool) (part : List ℕ) (n : ℕ) → section_of least most size fields ok part ≡ Ok n →
    Read least most size part n
unfolding section_of
section_read least most size fields ok part n e = head_read least most size part n (head_of_lem fields ok (head_of least most size part) n e)
