-- A check is a list of stages. A stage is a number and a test at each cell of a table; its fault is the first cell, row by row, at which
-- the test fails; the fault of a list is that of its first stage that has one. That an answer is given just where what it means holds is
-- proved once, for every list, in proofs/StageLaws: a rule more is one more stage in the list. Assumes nothing.
use Rattle.std.specs.Prelude.{◌≡◌, ◌↔◌, ◌⊎◌, Bool, true, false, List, [], ◌∷◌, ◌++◌, ℕ, ◌<◌}
use Rattle.std.proofs.Common.{sym, subst, ap, ◌∙◌}
use Rattle.stages.specs.Table.{first_cell}
use Rattle.stages.specs.declared.Place.{Place}
use Rattle.std.specs.Prelude.{Option, Some, None, Result, Ok, Err, ⊤}
use Rattle.stages.specs.declared.Refusal.{Refusal}

-- ---- what is meant

-- a number, a table of rows and columns, the test at a cell, and the place by which a refusal names a cell
pub record Stage : Type 0 where
  pub number : ℕ
  pub rows : ℕ
  pub cols : ℕ
  pub test : ℕ → ℕ → Bool
  pub named : ℕ → ℕ → Place

-- what is found of the stages: nothing is broken, or the number and the place of what is
abbrev pub Fault : Type 0
Fault = Result ⊤ Refusal

abbrev pub clean : Fault
clean = Ok tt

-- a place of two numbers, and one that names a field too
abbrev pub place : ℕ → ℕ → Place
place p q = record { first = p; second = q; third = 0 }

abbrev pub field_place : ℕ → ℕ → ℕ → Place
field_place p q f = record { first = p; second = q; third = f }

-- a test at one place
abbrev pub once : ℕ → Place → Bool → Stage
once k p b = record { number = k; rows = 1; cols = 1; test = λ z i. b; named = λ z i. p }

-- the first cell at which a stage's test fails
abbrev pub spot : Stage → Option (ℕ × ℕ)
spot s = first_cell s.rows s.cols s.test

abbrev pub fault_at : Stage → Option (ℕ × ℕ) → Fault → Fault
fault_at s (Some (z, i)) rest = Err (s.number, s.named z i)
fault_at s None rest = rest

-- the first stage's first fault
abbrev pub first_fault : List Stage → Fault
first_fault [] = clean
first_fault (s ∷ ss) = fault_at s (spot s) (first_fault ss)

-- an answer: good where there is no fault, bad with the number and the place where there is one
abbrev pub answer : {A : Type 0} → A → (Refusal → A) → Fault → A
answer good bad (Err r) = bad r
answer good bad (Ok _) = good

-- what a check gives that has this answer where nothing is broken
abbrev pub judged : {A : Type 0} → A → List Stage → Result A Refusal
judged good ss = answer (Ok good) Err (first_fault ss)

-- the fault of a result that is refused with the first fault
abbrev pub fault_of : {A : Type 0} → Result A Refusal → Fault
fault_of (Err r) = Err r
fault_of (Ok _) = clean

-- ---- what an answer means

-- the test holds at each cell
abbrev pub Holds : Stage → Type 0
Holds s = (z i : ℕ) → z < s.rows → i < s.cols → s.test z i ≡ true

-- it fails at the row z, column i, and at no cell before
pub record Breaks (s : Stage) (z i : ℕ) : Type 0 where
  pub row : z < s.rows
  pub col : i < s.cols
  pub fails : s.test z i ≡ false
  pub above : (y j : ℕ) → y < z → j < s.cols → s.test y j ≡ true
  pub left : (j : ℕ) → j < i → s.test z j ≡ true

-- the stage has the number k, and the first cell at which it fails has the place p
pub record BrokenAt (s : Stage) (k : ℕ) (p : Place) : Type 0 where
  pub row : ℕ
  pub col : ℕ
  pub number : s.number ≡ k
  pub named : s.named row col ≡ p
  pub breaks : Breaks s row col

-- `Ok`: each stage's test holds everywhere. `Err` of a number k and a place p: some stage is broken so, and the tests of the stages before it hold everywhere
abbrev pub Means : List Stage → Fault → Type 0
Means [] (Ok _) = Unit
Means [] (Err (k, p)) = ⊥
Means (s ∷ ss) (Ok _) = Holds s × Means ss clean
Means (s ∷ ss) (Err (k, p)) = BrokenAt s k p ⊎ (Holds s × Means ss (Err (k, p)))

-- ---- a place that says which cell it names

-- where a stage's places tell the row and the column of their cells, it is broken at the cell that its place tells
pub broken_here : (s : Stage) (row col : Place → ℕ) → ((z i : ℕ) → row (s.named z i) ≡ z) → ((z i : ℕ) → col (s.named z i) ≡ i) →
    {k : ℕ} {p : Place} → BrokenAt s k p → Breaks s (row p) (col p)
broken_here s row col rows cols {p = p} b =
    subst (Breaks s (row p)) (sym (cols b.row b.col) ∙ ap col b.named)
    (subst (λ (z : ℕ). Breaks s z b.col) (sym (rows b.row b.col) ∙ ap row b.named) b.breaks)

-- ---- one list after another

abbrev pub or_fault : Fault → Fault → Fault
or_fault (Err r) f = Err r
or_fault (Ok _) f = f

-- all of two lists hold
pub clean-++ : (xs ys : List Stage) → Means (xs ++ ys) clean ↔ (Means xs clean × Means ys clean)
clean-++ [] ys = (λ m. (tt, m), λ m. m.1)
clean-++ (s ∷ xs) ys = (
  λ m. let r = (clean-++ xs ys).0 m.1 in ((m.0, r.0), r.1),
  λ m. (m.0.0, (clean-++ xs ys).1 (m.0.1, m.1)),
)
