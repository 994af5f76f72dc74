-- The laws by which a loop looks for the first row at which a test fails, and that the answer says what it means. Assumes nothing.
use Rattle.std.specs.Prelude.{ℕ, zero, suc, ◌+◌, ◌<◌, ◌≤◌, ◌≡◌, refl, ◌⊎◌, Bool, true, false, ◌&&◌}
use Rattle.std.proofs.Common.{le_of_suc-le-suc, not-suc-le-zero, eq-or-lt_of_le, le_antisymm, add-one, arith, sym, inl, inr, ⊎_elim}
use Rattle.stages.specs.First.{every, or_else, bad_at, first_bad, Says, Passed, found_nothing}
use Rattle.std.specs.Prelude.{Option, Some, None}

-- ---- the laws a loop goes by: nothing passed yet; the test holds at i; it fails at i; the end

pub none_yet : (t : ℕ → Bool) → Passed t 0
none_yet t = record { nothing = refl }

pub more : {t : ℕ → Bool} {i : ℕ} → Passed t i → t i ≡ true → Passed t (i + 1)
more {t} {i} p e = record { nothing = rw (add-one, p.nothing, e) }

stop_at : {t : ℕ → Bool} {i : ℕ} (n : ℕ) → Passed t i → t i ≡ false → i < n → first_bad n t ≡ Some i
stop_at zero p e l = absurd (not-suc-le-zero l)
stop_at {t} {i} (suc n) p e l = last (eq-or-lt_of_le (le_of_suc-le-suc l)) (λ m. stop_at n p e m)
  where
    last : (i ≡ n) ⊎ (i < n) → (i < n → first_bad n t ≡ Some i) → first_bad (suc n) t ≡ Some i
    last (inl q) h = rw (← q, p.nothing, e)
    last (inr m) h = rw (h m)

pub stop : {t : ℕ → Bool} {i n : ℕ} → Passed t i → t i ≡ false → i < n → Some i ≡ first_bad n t
stop {n = n} p e l = sym (stop_at n p e l)

pub done : {t : ℕ → Bool} {i n : ℕ} → Passed t i → i ≤ n → n ≤ i → None ≡ first_bad n t
done {t} p l m = rw (le_antisymm l m) at (sym p.nothing)

-- ---- the answer says what it means

one_more : (n : ℕ) (t : ℕ → Bool) (f : Option ℕ) (b : Bool) → t n ≡ b → Says n t f → Says (suc n) t (or_else f (bad_at b n))
one_more n t (Some k) b e s = (omega (arith, s.0), s.1)
one_more n t None false e s = (omega arith, (e, s))
one_more n t None true e s = λ j l. ⊎_elim (λ q. rw q e) (λ m. s j m) (eq-or-lt_of_le (le_of_suc-le-suc l))

pub says : (n : ℕ) (t : ℕ → Bool) → Says n t (first_bad n t)
says zero t = λ j l. absurd (not-suc-le-zero l)
says (suc n) t = one_more n t (first_bad n t) (t n) refl (says n t)

pub passed : (t : ℕ → Bool) (n : ℕ) → ((j : ℕ) → j < n → t j ≡ true) → Passed t n
passed t zero h = none_yet t
passed t (suc n) h = rw (← add-one) (more (passed t n (λ j l. h j (omega arith))) (h n (omega arith)))

-- ---- every row

pub every_first : (n : ℕ) (t : ℕ → Bool) → every n t ≡ found_nothing (first_bad n t)
every_first zero t = refl
every_first (suc n) t = rw (every_first n t) (by (first_bad n t) (t n))
  where
    by : (f : Option ℕ) (b : Bool) → (found_nothing f && b) ≡ found_nothing (or_else f (bad_at b n))
    by (Some k) b = refl
    by None true = refl
    by None false = refl

-- ---- tests that agree at each row below n

pub same_first : (n : ℕ) (t u : ℕ → Bool) → ((j : ℕ) → j < n → t j ≡ u j) → first_bad n t ≡ first_bad n u
same_first zero t u h = refl
same_first (suc n) t u h = rw (same_first n t u (λ j l. h j (omega arith)), h n (omega arith))
