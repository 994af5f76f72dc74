-- The first row at which a test fails, and a test's answer as a fact. Assumes nothing.
use Rattle.std.specs.Prelude.{ℕ, zero, suc, ◌<◌, ◌≤◌, ◌≡◌, refl, ◌↔◌, Bool, true, false, ◌&&◌, not, leb, ltb, eqb}
use Rattle.std.proofs.Common.{le_of_suc-le-suc, not-suc-le-zero, eq-or-lt_of_le, arith, ⊎_elim, leb-true, leb-false, le-leb, ltb-true, lt-ltb, eqb-true, eq-eqb}
use Rattle.std.proofs.lemmas.Bool.{lt-leb}
use Rattle.std.specs.Prelude.{Option, Some, None}

-- ---- what is meant

-- the test holds at each row below n
abbrev pub every : ℕ → (ℕ → Bool) → Bool
every zero t = true
every (suc n) t = every n t && t n

-- the first of two answers that found something
abbrev pub or_else : Option ℕ → Option ℕ → Option ℕ
or_else (Some k) b = Some k
or_else None b = b

-- what a test at k finds
abbrev pub bad_at : Bool → ℕ → Option ℕ
bad_at true k = None
bad_at false k = Some k

-- the first row below n at which the test fails
abbrev pub first_bad : ℕ → (ℕ → Bool) → Option ℕ
first_bad zero t = None
first_bad (suc n) t = or_else (first_bad n t) (bad_at (t n) n)

-- what an answer says. `None`: the test holds at each row below n. `Some k`: it fails at k, which is below n, and holds at each row before
abbrev pub Says : ℕ → (ℕ → Bool) → Option ℕ → Type 0
Says n t None = (j : ℕ) → j < n → t j ≡ true
Says n t (Some k) = (k < n) × ((t k ≡ false) × ((j : ℕ) → j < k → t j ≡ true))

-- ---- two answers of a test that differ

pub apart : {A : Type 0} {b : Bool} → b ≡ true → b ≡ false → A
apart e f = let z : ◌≡◌ {A = ℕ} 0 1 = cc in absurd (omega arith)

pub both : (a b : Bool) → ((a && b) ≡ true) ↔ ((a ≡ true) × (b ≡ true))
both true b = (λ e. (refl, e), λ e. e.1)
both false b = (λ e. apart e refl, λ e. apart e.0 refl)

-- ---- a test's answer, as a fact

pub leb_is : (a b : ℕ) → (leb a b ≡ true) ↔ (a ≤ b)
leb_is a b = (leb-true a b, le-leb a b)

pub leb_false_is : (a b : ℕ) → (leb a b ≡ false) ↔ (b < a)
leb_false_is a b = (leb-false a b, lt-leb a b)

pub ltb_is : (a b : ℕ) → (ltb a b ≡ true) ↔ (a < b)
ltb_is a b = (ltb-true a b, lt-ltb a b)

pub eqb_is : (a b : ℕ) → (eqb a b ≡ true) ↔ (a ≡ b)
eqb_is a b = (eqb-true a b, eq-eqb a b)

pub not_is : (b : Bool) → (not b ≡ true) ↔ ¬ (b ≡ true)
not_is true = (λ e _. apart e refl, λ n. absurd (n refl))
not_is false = (λ _ e. apart e refl, λ _. refl)

-- ---- what a loop knows on its way

-- the test holds at each row below i. A record, so that a law's t and i are read off what it is handed
pub record Passed (t : ℕ → Bool) (i : ℕ) : Type 0 where
  pub nothing : first_bad i t ≡ None

-- ---- every row

-- as a sentence
pub every_is : (n : ℕ) (t : ℕ → Bool) → (every n t ≡ true) ↔ ((j : ℕ) → j < n → t j ≡ true)
every_is zero t = (λ e j l. absurd (not-suc-le-zero l), λ h. refl)
every_is (suc n) t = (
  λ e j l. let b = (both (every n t) (t n)).0 e in
      ⊎_elim (λ q. rw q b.1) (λ m. (every_is n t).0 b.0 j m) (eq-or-lt_of_le (le_of_suc-le-suc l)),
  λ h. (both (every n t) (t n)).1 ((every_is n t).1 (λ j l. h j (omega arith)), h n (omega arith)),
)

-- what a search for a row that fails tells: nothing found, so every row passes; one found, so not every row does
abbrev pub found_nothing : Option ℕ → Bool
found_nothing (Some k) = false
found_nothing None = true
