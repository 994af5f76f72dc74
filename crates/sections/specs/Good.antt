-- What a section that reads without fault guarantees, as a sentence. Assumes nothing.
use Rattle.std.specs.Prelude.{ℕ, ◌+◌, ◌*◌, ◌<◌, ◌≤◌, ◌≡◌, ◌↔◌, Bool, true, false, List, length}
use Rattle.std.proofs.Common.{arith, ⊎_elim, length-drop, leb-true, le-leb}
use Rattle.stages.specs.First.{every}
use Rattle.stages.specs.Stage.{Means}
use Rattle.stages.specs.declared.Place.{Place}
use Rattle.sections.specs.Section.{Numbers, count, after, ended}
use Rattle.std.specs.Prelude.{Err}
use Rattle.stages.specs.Stage.{clean}

-- its count is there and within its limits, the file has room for all rows, and each row obeys its rule: each of its fields passes its test
pub record GoodSection (least most size fields : ℕ) (ok : ℕ → ℕ → Bool) (part : List ℕ) : Type 0 where
  pub counted : 2 ≤ length part
  pub at_least : least ≤ count part
  pub at_most : count part ≤ most
  pub room : 2 + size * count part ≤ length part
  pub rows : (i : ℕ) → i < count part → every fields (ok i) ≡ true

-- the same of its count, its limits and the room alone
pub record Head (least most size : ℕ) (part : List ℕ) : Type 0 where
  pub counted : 2 ≤ length part
  pub at_least : least ≤ count part
  pub at_most : count part ≤ most
  pub room : 2 + size * count part ≤ length part

module _ {least most size fields : ℕ} {ok : ℕ → ℕ → Bool} {part : List ℕ} where
  pub head : GoodSection least most size fields ok part → Head least most size part
  head g = record { counted = g.counted; at_least = g.at_least; at_most = g.at_most; room = g.room }

  pub with_rows_lem : Head least most size part → ((i : ℕ) → i < count part → every fields (ok i) ≡ true) → GoodSection least most size fields ok part
  with_rows_lem h r = record { counted = h.counted; at_least = h.at_least; at_most = h.at_most; room = h.room; rows = r }

-- its head is good, and the field is the first that fails its test in the first row that has one
pub record FirstBad (least most size fields : ℕ) (ok : ℕ → ℕ → Bool) (part : List ℕ) (row field : ℕ) : Type 0 where
  pub counted : 2 ≤ length part
  pub at_least : least ≤ count part
  pub at_most : count part ≤ most
  pub room : 2 + size * count part ≤ length part
  pub row_is : row < count part
  pub field_is : field < fields
  pub fails : ok row field ≡ false
  pub rows_before : (i : ℕ) → i < row → every fields (ok i) ≡ true
  pub fields_before : (f : ℕ) → f < field → ok row f ≡ true

-- a bad row has a number of its own
abbrev pub OwnNumber : Numbers → Type 0
OwnNumber numbers = ¬ (numbers.cut ≡ numbers.bad) × ¬ (numbers.beyond ≡ numbers.bad)

-- nothing comes after the last section
pub ended_clean : (number : ℕ) (part : List ℕ) → Means (ended number part) clean ↔ (length part ≡ 0)
ended_clean number part = (
  λ m. let l = leb-true (length part) 0 (m.0 0 0 (omega arith) (omega arith)) in omega arith,
  λ e. (λ z i _ _. le-leb (length part) 0 (omega arith), tt),
)

-- that is refused with its own number
pub ended_other : (number : ℕ) (part : List ℕ) (k : ℕ) (p : Place) → ¬ (number ≡ k) → Means (ended number part) (Err (k, p)) ↔ ⊥
ended_other number part k p other = (λ m. ⊎_elim (λ b. other b.number) (λ r. r.1) m, λ z. absurd z)

-- a section and what is left after it make up the part
pub part_length : (size : ℕ) (part : List ℕ) → 2 + size * count part ≤ length part → length part ≡ 2 + size * count part + length (after size part)
part_length size part h = simp length-drop (omega arith)
