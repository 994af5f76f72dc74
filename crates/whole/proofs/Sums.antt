-- The laws of sums. A law is proved by induction on n: the hypothesis is put in by `rw` or `given`, and the step is linear.
-- Assumes nothing.
use Rattle.std.specs.Prelude.{◌≡◌, refl, Bool, true, false, cond, ℕ, zero, suc, ◌+◌, ◌<◌, T, eqb, ℤ, pos, neg_ℤ, ◌+ℤ◌, ◌*ℤ◌}
use Rattle.std.proofs.Common.{◌∙◌, add-zero, add-suc, add-one, arith, eqb→eq}
use Rattle.std.proofs.Math.Decide.{ℕ_discrete}
use Rattle.std.proofs.Math.Dec.{eqb_refl}
use Rattle.std.proofs.Math.IntN.{+ℤ_idl, +ℤ_idr, *ℤ-zero, zero-*ℤ}
use Rattle.whole.specs.Whole.{◌≼◌, sum, at}
use Rattle.whole.specs.Ring.{given, linear, ring, spread, ≼_refl}

pub sum_step : (n : ℕ) (f : ℕ → ℤ) → sum (suc n) f ≡ sum n f +ℤ f n
unfolding sum
sum_step n f = refl

-- the same at the code's `n + 1`
pub sum_next : (n : ℕ) (f : ℕ → ℤ) → sum (n + 1) f ≡ sum n f +ℤ f n
sum_next n f = rw add-one (sum_step n f)

pub sum_mono : (n : ℕ) (f g : ℕ → ℤ) → ((i : ℕ) → i < n → f i ≼ g i) → sum n f ≼ sum n g
unfolding sum
sum_mono zero f g h = ≼_refl (pos zero)
sum_mono (suc n) f g h =
    given (sum_mono n f g (λ i l. h i (omega arith))) (given (h n (omega arith)) (simp linear (omega arith)))

pub sum_cong : (n : ℕ) (f g : ℕ → ℤ) → ((i : ℕ) → i < n → f i ≡ g i) → sum n f ≡ sum n g
unfolding sum
sum_cong zero f g h = refl
sum_cong (suc n) f g h = rw (sum_cong n f g (λ i l. h i (omega arith)), h n (omega arith))

pub sum-+ : (n : ℕ) (f g : ℕ → ℤ) → sum n (λ i. f i +ℤ g i) ≡ sum n f +ℤ sum n g
unfolding sum
sum-+ zero f g = refl
sum-+ (suc n) f g = rw (sum-+ n f g) (simp linear (omega arith))

pub sum_neg : (n : ℕ) (f : ℕ → ℤ) → sum n (λ i. neg_ℤ (f i)) ≡ neg_ℤ (sum n f)
unfolding sum
sum_neg zero f = refl
sum_neg (suc n) f = rw (sum_neg n f) (simp linear (omega arith))

pub sum_scale : (n : ℕ) (c : ℤ) (f : ℕ → ℤ) → sum n (λ i. c *ℤ f i) ≡ c *ℤ sum n f
unfolding sum
sum_scale zero c f = rw *ℤ-zero
sum_scale (suc n) c f = rw (sum_scale n c f) (simp ring (omega arith))

pub sum_scale_right : (n : ℕ) (c : ℤ) (f : ℕ → ℤ) → sum n (λ i. f i *ℤ c) ≡ sum n f *ℤ c
unfolding sum
sum_scale_right zero c f = rw zero-*ℤ
sum_scale_right (suc n) c f = rw (sum_scale_right n c f) (simp ring (omega arith))

-- sums of polynomials taken apart: `simp sums (simp linear (omega arith))`, in two steps, since `linear` would take a sum for an unknown first
pub ruleset sums = (spread, sum-+, sum_neg, sum_scale, sum_scale_right)

pub sum_zero : (n : ℕ) (f : ℕ → ℤ) → ((i : ℕ) → i < n → f i ≡ pos zero) → sum n f ≡ pos zero
unfolding sum
sum_zero zero f h = refl
sum_zero (suc n) f h = rw (sum_zero n f (λ i l. h i (omega arith)), h n (omega arith))

-- no term below zero, no sum below zero
pub sum_nonneg : (n : ℕ) (f : ℕ → ℤ) → ((i : ℕ) → i < n → pos zero ≼ f i) → pos zero ≼ sum n f
unfolding sum
sum_nonneg zero f h = ≼_refl (pos zero)
sum_nonneg (suc n) f h =
    given (sum_nonneg n f (λ i l. h i (omega arith))) (given (h n (omega arith)) (simp linear (omega arith)))

pub sum_swap : (n m : ℕ) (f : ℕ → ℕ → ℤ) → sum n (λ i. sum m (λ j. f i j)) ≡ sum m (λ j. sum n (λ i. f i j))
unfolding sum
sum_swap zero m f = rw (sum_zero m (λ j. pos zero) (λ j l. refl))
sum_swap (suc n) m f = rw (sum_swap n m f, sum-+ m (λ j. sum n (λ i. f i j)) (λ j. f n j))

pub sum_split : (n m : ℕ) (f : ℕ → ℤ) → sum (n + m) f ≡ sum n f +ℤ sum m (λ i. f (n + i))
unfolding sum
sum_split n zero f = rw add-zero (simp linear (omega arith))
sum_split n (suc m) f = rw (add-suc, sum_split n m f) (simp linear (omega arith))

-- ---- one term that counts

pub sum_only : (n k : ℕ) (f : ℕ → ℤ) → k < n → ((i : ℕ) → i < n → ¬ (i ≡ k) → f i ≡ pos zero) → sum n f ≡ f k
unfolding sum
sum_only zero k f h z = absurd (omega arith)
sum_only (suc n) k f h z = last (ℕ_discrete n k) (λ l. sum_only n k f l (λ i m. z i (omega arith)))
  where
    last : Dec (n ≡ k) → (k < n → sum n f ≡ f k) → sum n f +ℤ f n ≡ f k
    last (yes e) ih = rw (sum_zero n f (λ i l. z i (omega arith) (omega arith)), e, +ℤ_idl)
    last (no e) ih = rw (ih (omega arith), z n (omega arith) e, +ℤ_idr)

pub at_same : (k : ℕ) (x : ℤ) → at k x k ≡ x
unfolding at
at_same k x = passed (eqb k k) (eqb_refl k)
  where
    passed : (b : Bool) → T b → cond b x (pos zero) ≡ x
    passed true t = refl
    passed false t = absurd t

pub at_other : (k : ℕ) (x : ℤ) (i : ℕ) → ¬ (i ≡ k) → at k x i ≡ pos zero
unfolding at
at_other k x i h = failed (eqb i k) (λ t. h (eqb→eq i k t))
  where
    failed : (b : Bool) → ¬ (T b) → cond b x (pos zero) ≡ pos zero
    failed true t = absurd (t tt)
    failed false t = refl

pub sum_at : (n k : ℕ) (f : ℕ → ℤ) → k < n → sum n (λ i. at k (f i) i) ≡ f k
sum_at n k f h = sum_only n k (λ i. at k (f i) i) h (λ i l e. at_other k (f i) i e) ∙ at_same k (f k)

pub sum_times_at : (n k : ℕ) (f : ℕ → ℤ) (x : ℤ) → k < n → sum n (λ i. f i *ℤ at k x i) ≡ f k *ℤ x
sum_times_at n k f x h =
    sum_only n k (λ i. f i *ℤ at k x i) h (λ i l e. rw (at_other k x i e, *ℤ-zero)) ∙ rw (at_same k x)
