-- A row's rule is a test for each of its fields, in row order. Assumes nothing.
use Rattle.std.specs.Prelude.{ℕ, zero, suc, ◌+◌, ◌<◌, ◌≡◌, refl, Bool, true, false, ◌&&◌, List, [], ◌∷◌, eqb, length, get_or}
use Rattle.std.proofs.Common.{zero-add, suc-add, le_of_suc-le-suc, not-suc-le-zero, arith, eq-eqb, ne_eqb}
use Rattle.stages.specs.First.{every, or_else, bad_at, first_bad, found_nothing}
use Rattle.stages.proofs.FirstLaws.{every_first, same_first}
use Rattle.std.specs.Prelude.{Option, Some, None}

-- ---- what is meant

-- the test of the field f, from 0 on: the tests of the first fields, and then those of the fields behind them
abbrev pub behind : List Bool → (ℕ → Bool) → ℕ → Bool
behind [] t f = t f
behind (b ∷ bs) t zero = b
behind (b ∷ bs) t (suc f) = behind bs t f

-- of a row that has no fields behind them
abbrev pub only : List Bool → ℕ → Bool
only bs = behind bs (λ f. true)

-- the same tests, and of the last field e is asked too
abbrev pub asked : Bool → Bool → Bool
asked true e = e
asked false e = true

abbrev pub with_last : ℕ → Bool → (ℕ → Bool) → ℕ → Bool
with_last last e t f = t f && asked (eqb f last) e

-- ---- the tests of a list, one by one

pub only_at : (bs : List Bool) {f : ℕ} → f < length bs → only bs f ≡ get_or bs f false
only_at [] l = absurd (not-suc-le-zero l)
only_at (b ∷ bs) {f = zero} l = refl
only_at (b ∷ bs) {f = suc f} l = only_at bs (le_of_suc-le-suc l)

-- ---- the first field that fails, of some fields and of those behind them

-- so many fields on
abbrev next : Option ℕ → Option ℕ
next (Some j) = Some (suc j)
next None = None

abbrev pub counted_on : ℕ → Option ℕ → Option ℕ
counted_on zero f = f
counted_on (suc k) f = next (counted_on k f)

first_front : (n : ℕ) (t : ℕ → Bool) → first_bad (suc n) t ≡ or_else (bad_at (t 0) 0) (next (first_bad n (λ f. t (suc f))))
first_front zero t = by (t 0)
  where
    by : (b : Bool) → bad_at b 0 ≡ or_else (bad_at b 0) None
    by true = refl
    by false = refl
first_front (suc n) t = rw (first_front n t) (by (t 0) (first_bad n (λ f. t (suc f))) (t (suc n)))
  where
    by : (b : Bool) (f : Option ℕ) (c : Bool) →
        or_else (or_else (bad_at b 0) (next f)) (bad_at c (suc n)) ≡ or_else (bad_at b 0) (next (or_else f (bad_at c n)))
    by true (Some k) c = refl
    by true None true = refl
    by true None false = refl
    by false f c = refl

pub first_behind : (bs : List Bool) (n : ℕ) (t : ℕ → Bool) →
    first_bad (length bs + n) (behind bs t) ≡ or_else (first_bad (length bs) (only bs)) (counted_on (length bs) (first_bad n t))
first_behind [] n t = rw (zero-add n)
first_behind (b ∷ bs) n t =
    rw (suc-add (length bs) n, first_front (length bs + n) (behind (b ∷ bs) t), first_behind bs n t, first_front (length bs) (only (b ∷ bs)))
    (by b (first_bad (length bs) (only bs)) (counted_on (length bs) (first_bad n t)))
  where
    by : (b : Bool) (f g : Option ℕ) → or_else (bad_at b 0) (next (or_else f g)) ≡ or_else (or_else (bad_at b 0) (next f)) (next g)
    by true (Some k) g = refl
    by true None g = refl
    by false f g = refl

pub counted : (k j : ℕ) → counted_on k (Some j) ≡ Some (k + j)
counted zero j = rw (zero-add j)
counted (suc k) j = rw (counted k j, suc-add k j)

pub counted_none : (k : ℕ) → counted_on k None ≡ None
counted_none zero = refl
counted_none (suc k) = rw (counted_none k)

module _ (bs : List Bool) (n : ℕ) (t : ℕ → Bool) where
  pub every_behind : every (length bs + n) (behind bs t) ≡ (every (length bs) (only bs) && every n t)
  every_behind =
      rw (every_first (length bs + n) (behind bs t), first_behind bs n t, every_first (length bs) (only bs), every_first n t)
      (by (first_bad (length bs) (only bs)) (first_bad n t))
    where
      by : (f g : Option ℕ) → found_nothing (or_else f (counted_on (length bs) g)) ≡ (found_nothing f && found_nothing g)
      by (Some k) g = refl
      by None (Some j) = rw (counted (length bs) j)
      by None None = rw (counted_none (length bs))

-- ---- with what the last of m fields is asked

&&_true : (a : Bool) → (a && true) ≡ a
&&_true true = refl
&&_true false = refl

module _ (last : ℕ) (e : Bool) (t : ℕ → Bool) where
  first_last : first_bad (suc last) (with_last last e t) ≡ or_else (first_bad (suc last) t) (bad_at e last)
  first_last =
      rw (same_first last (with_last last e t) t below, eq-eqb last last refl) (by (first_bad last t) (t last) e)
    where
      below : (j : ℕ) → j < last → with_last last e t j ≡ t j
      below j l = rw (ne_eqb j last (λ q. omega (arith, l, q))) (&&_true (t j))

      by : (f : Option ℕ) (b e : Bool) → or_else f (bad_at (b && e) last) ≡ or_else (or_else f (bad_at b last)) (bad_at e last)
      by (Some k) b e = refl
      by None true e = refl
      by None false e = refl

  module _ {m : ℕ} (q : m ≡ suc last) where
    pub first_with_last : first_bad m (with_last last e t) ≡ or_else (first_bad m t) (bad_at e last)
    first_with_last = rw q first_last

    pub every_with_last : every m (with_last last e t) ≡ (every m t && e)
    every_with_last = rw (every_first m (with_last last e t), first_with_last, every_first m t) (by (first_bad m t) e)
      where
        by : (f : Option ℕ) (e : Bool) → found_nothing (or_else f (bad_at e last)) ≡ (found_nothing f && e)
        by (Some k) e = refl
        by None true = refl
        by None false = refl
