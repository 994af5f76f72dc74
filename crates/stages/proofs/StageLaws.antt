-- The first fault of a list of stages, and an answer made of it, is given just where what it means holds: proved here once, for every
-- list. Assumes nothing.
use Rattle.std.specs.Prelude.{◌≡◌, refl, ◌↔◌, Bool, List, [], ◌∷◌, ◌++◌, ℕ, zero, suc, ◌<◌}
use Rattle.std.proofs.Common.{sym, subst, ap, ◌∙◌, inl, inr, ⊎_elim, le_of_suc-le-suc, not-suc-le-zero, eq-or-lt_of_le, arith}
use Rattle.stages.specs.First.{first_bad, Says, apart}
use Rattle.stages.proofs.FirstLaws.{says}
use Rattle.stages.specs.Table.{or_spot, in_row, first_cell}
use Rattle.stages.specs.Stage.{Stage, spot, fault_at, first_fault, answer, judged, fault_of, Holds, Breaks, Means, or_fault}
use Rattle.stages.specs.declared.Place.{Place}
use Rattle.stages.specs.declared.Refusal.{Refusal}
use Rattle.std.specs.Prelude.{Option, Some, None, Ok, Err}
use Rattle.stages.specs.Stage.{Fault, clean}

-- ---- one stage

abbrev SaysSpot : Stage → Option (ℕ × ℕ) → Type 0
SaysSpot s None = Holds s
SaysSpot s (Some (z, i)) = Breaks s z i

module _ (k cols : ℕ) (t : ℕ → ℕ → Bool) (p : ℕ → ℕ → Place) where
  abbrev up_to : ℕ → Stage
  up_to r = record { number = k; rows = r; cols = cols; test = t; named = p }

  one_row : (r : ℕ) (q : Option (ℕ × ℕ)) (f : Option ℕ) → SaysSpot (up_to r) q → Says cols (t r) f → SaysSpot (up_to (suc r)) (or_spot q (in_row r f))
  one_row r (Some (z, i)) f b s = record { row = omega (arith, b.row); col = b.col; fails = b.fails; above = b.above; left = b.left }
  one_row r None (Some i) h s = record { row = omega arith; col = s.0; fails = s.1.0; above = h; left = s.1.1 }
  one_row r None None h s = λ z i l m. ⊎_elim (λ e. rw e (s i m)) (λ n. h z i n m) (eq-or-lt_of_le (le_of_suc-le-suc l))

  says_rows : (r : ℕ) → SaysSpot (up_to r) (first_cell r cols t)
  says_rows zero = λ z i l m. absurd (not-suc-le-zero l)
  says_rows (suc r) = one_row r (first_cell r cols t) (first_bad cols (t r)) (says_rows r) (says cols (t r))

says_spot : (s : Stage) → SaysSpot s (spot s)
says_spot s = says_rows s.number s.cols s.test s.named s.rows

-- a table has one first fault
not_above : {s : Stage} {z i y j : ℕ} → Breaks s z i → Breaks s y j → ¬ (y < z)
not_above {y = y} {j = j} b d l = apart (b.above y j l d.col) d.fails

not_left : {s : Stage} {z i y j : ℕ} → y ≡ z → Breaks s z i → Breaks s y j → ¬ (j < i)
not_left {j = j} e b d l = apart (b.left j l) (rw e at d.fails)

one_spot : (s : Stage) (p q : Option (ℕ × ℕ)) → SaysSpot s p → SaysSpot s q → p ≡ q
one_spot s None None h g = refl
one_spot s None (Some (z, i)) h b = apart (h z i b.row b.col) b.fails
one_spot s (Some (z, i)) None b h = apart (h z i b.row b.col) b.fails
one_spot s (Some (z, i)) (Some (y, j)) b d =
    let u = not_above b d in
    let v = not_above d b in
    let e : y ≡ z = omega arith in
    let l = not_left e b d in
    let r = not_left (sym e) d b in
    let c : j ≡ i = omega arith in
    cc

spot_is : (s : Stage) (p : Option (ℕ × ℕ)) → SaysSpot s p → spot s ≡ p
spot_is s p h = one_spot s (spot s) p (says_spot s) h

-- ---- a list of stages

joined : (s : Stage) (ss : List Stage) (p : Option (ℕ × ℕ)) (f : Fault) → SaysSpot s p → Means ss f → Means (s ∷ ss) (fault_at s p f)
joined s ss (Some (z, i)) f b m = inl (record { row = z; col = i; number = refl; named = refl; breaks = b })
joined s ss None (Ok _) h m = (h, m)
joined s ss None (Err (k, p)) h m = inr (h, m)

holds_of : (ss : List Stage) → Means ss (first_fault ss)
holds_of [] = tt
holds_of (s ∷ ss) = joined s ss (spot s) (first_fault ss) (says_spot s) (holds_of ss)

answer_is : (ss : List Stage) (f : Fault) → Means ss f → first_fault ss ≡ f
answer_is [] (Ok _) m = refl
answer_is [] (Err (k, p)) m = absurd m
answer_is (s ∷ ss) (Ok _) m = rw (spot_is s None m.0) (answer_is ss clean m.1)
answer_is (s ∷ ss) (Err (k, p)) (inl m) = rw (spot_is s (Some (m.row, m.col)) m.breaks, m.number, m.named)
answer_is (s ∷ ss) (Err (k, p)) (inr m) = rw (spot_is s None m.0) (answer_is ss (Err (k, p)) m.1)

-- THE LAW OF STAGES: an answer is given just where what it means holds
pub means : (ss : List Stage) (f : Fault) → (first_fault ss ≡ f) ↔ Means ss f
means ss f = (λ e. subst (Means ss) e (holds_of ss), answer_is ss f)

-- ---- one list after another

pub fault-++ : (xs ys : List Stage) → first_fault (xs ++ ys) ≡ or_fault (first_fault xs) (first_fault ys)
fault-++ [] ys = refl
fault-++ (s ∷ xs) ys = rw (fault-++ xs ys) (by (spot s))
  where
    by : (p : Option (ℕ × ℕ)) → fault_at s p (or_fault (first_fault xs) (first_fault ys)) ≡ or_fault (fault_at s p (first_fault xs)) (first_fault ys)
    by (Some (z, i)) = refl
    by None = refl

-- ---- an answer that is made of the first fault, by the definition that gives the fault of each answer

module _ {A : Type 0} (good : A) (bad : Refusal → A) (fault : A → Fault) (fault_good : fault good ≡ clean)
    (fault_bad : (r : Refusal) → fault (bad r) ≡ Err r) where
  pub answer_fault : (f : Fault) → fault (answer good bad f) ≡ f
  answer_fault (Ok _) = fault_good
  answer_fault (Err r) = fault_bad r

  answer_of : (f : Fault) {x : A} → answer good bad f ≡ x → f ≡ fault x
  answer_of f e = sym (answer_fault f) ∙ ap fault e

  module _ (ss : List Stage) where
    -- the good answer is given just where every stage's test holds everywhere
    pub answer_good : (answer good bad (first_fault ss) ≡ good) ↔ Means ss clean
    answer_good = (
      λ e. (means ss clean).0 (answer_of (first_fault ss) e ∙ fault_good),
      λ m. ap (answer good bad) ((means ss clean).1 m),
    )

    -- a bad one, just where that is the first fault
    pub answer_bad : (k : ℕ) (p : Place) → (answer good bad (first_fault ss) ≡ bad (k, p)) ↔ Means ss (Err (k, p))
    answer_bad k p = (
      λ e. (means ss (Err (k, p))).0 (answer_of (first_fault ss) e ∙ fault_bad (k, p)),
      λ m. ap (answer good bad) ((means ss (Err (k, p))).1 m),
    )

-- ---- the same of a result

pub refused_by : {A : Type 0} (good : A) {f : Fault} {r : Refusal} → f ≡ Err r → Err r ≡ answer (Ok good) Err f
refused_by good e = rw e

pub passed_by : {A : Type 0} (good : A) {f : Fault} → f ≡ clean → Ok good ≡ answer (Ok good) Err f
passed_by good e = rw e

module _ {A : Type 0} (good : A) where
  pub result_fault : (f : Fault) → fault_of (answer (Ok good) Err f) ≡ f
  result_fault = answer_fault (Ok good) Err fault_of refl (λ r. refl)

  pub result_good : (ss : List Stage) → (judged good ss ≡ Ok good) ↔ Means ss clean
  result_good = answer_good (Ok good) Err fault_of refl (λ r. refl)

  pub result_bad : (ss : List Stage) (k : ℕ) (p : Place) → (judged good ss ≡ Err (k, p)) ↔ Means ss (Err (k, p))
  result_bad = answer_bad (Ok good) Err fault_of refl (λ r. refl)
