-- How large a whole number is, and from a bound on that, that it fits a signed width. Assumes nothing.
use Rattle.std.specs.Prelude.{◌≡◌, refl, ◌↔◌, Bool, true, false, cond, ℕ, zero, suc, ◌+◌, ◌*◌, ◌≤◌, ◌<◌, ◌^◌, eqb, ℤ, pos, negsuc, neg_ℤ, ◌+ℤ◌, ◌-ℤ◌, ◌*ℤ◌, nat_abs}
use Rattle.std.proofs.Common.{mul-le-mul, le_trans, le_refl, arith}
use Rattle.std.specs.Int.Signed.{mag}
use Rattle.std.specs.Int.{Width, w32, w64}
use mir.Val.{SFits, hbits, to_z, of_z}
use Rattle.std.proofs.lemmas.Int.{to_z-of_z}
use Rattle.whole.specs.Whole.{◌≼◌, ◌≺◌, above_zero, sum, at}
use Rattle.whole.specs.Ring.{given, linear}

-- ---- the size of a sum, a difference, a product

pub abs_le : (z : ℤ) (b : ℕ) → nat_abs z ≤ b ↔ (neg_ℤ (pos b) ≼ z) × (z ≼ pos b)
abs_le (pos n) b = simp linear (omega arith)
abs_le (negsuc n) b = simp linear (omega arith)

pub mag_lt : (z : ℤ) (b : ℕ) → mag z < b ↔ (neg_ℤ (pos b) ≼ z) × (z ≺ pos b)
mag_lt (pos n) b = simp linear (omega arith)
mag_lt (negsuc n) b = simp linear (omega arith)

pub abs_neg : (x : ℤ) → nat_abs (neg_ℤ x) ≡ nat_abs x
abs_neg (pos zero) = refl
abs_neg (pos (suc n)) = refl
abs_neg (negsuc n) = refl

pub abs-* : (x y : ℤ) → nat_abs (x *ℤ y) ≡ nat_abs x * nat_abs y
abs-* (pos a) (pos b) = refl
abs-* (pos a) (negsuc b) = abs_neg (pos (a * suc b))
abs-* (negsuc a) (pos b) = abs_neg (pos (suc a * b))
abs-* (negsuc a) (negsuc b) = refl

pub abs-+ : (x y : ℤ) → nat_abs (x +ℤ y) ≤ nat_abs x + nat_abs y
abs-+ x y =
    (abs_le (x +ℤ y) (nat_abs x + nat_abs y)).1
    (given ((abs_le x (nat_abs x)).0 (omega arith)) (given ((abs_le y (nat_abs y)).0 (omega arith)) (simp linear (omega arith))))

pub abs-- : (x y : ℤ) → nat_abs (x -ℤ y) ≤ nat_abs x + nat_abs y
abs-- x y = omega (arith, abs-+ x (neg_ℤ y), abs_neg y)

pub abs-*-≤ : (x y : ℤ) (a b : ℕ) → nat_abs x ≤ a → nat_abs y ≤ b → nat_abs (x *ℤ y) ≤ a * b
abs-*-≤ x y a b h k = rw (abs-* x y) (mul-le-mul h k)

-- n terms, each within b: their sum is within n times b
pub sum_size : (n : ℕ) (f : ℕ → ℤ) (B : ℕ) → ((i : ℕ) → i < n → nat_abs (f i) ≤ B) → nat_abs (sum n f) ≤ n * B
unfolding sum
sum_size zero f B h = omega arith
sum_size (suc n) f B h =
    simp abs_le (given (simp abs_le at (sum_size n f B (λ i l. h i (omega arith))))
    (given (simp abs_le at (h n (omega arith))) (simp linear (omega arith))))

-- the same of at most so many terms
pub sum_within : (n most : ℕ) (f : ℕ → ℤ) (B : ℕ) → n ≤ most → ((i : ℕ) → i < n → nat_abs (f i) ≤ B) → nat_abs (sum n f) ≤ most * B
sum_within n most f B l h = le_trans (sum_size n f B h) (mul-le-mul l (le_refl B))

pub at_size : (k : ℕ) (x : ℤ) (i : ℕ) → nat_abs (at k x i) ≤ nat_abs x
unfolding at
at_size k x i = by (eqb i k)
  where
    by : (b : Bool) → nat_abs (cond b x (pos zero)) ≤ nat_abs x
    by true = omega arith
    by false = omega arith

pub above_zero_size : (z : ℤ) → nat_abs (above_zero z) ≤ nat_abs z
unfolding above_zero
above_zero_size (pos n) = omega arith
above_zero_size (negsuc n) = omega arith

-- ---- what a signed width holds

pub mag_le_abs : (z : ℤ) → mag z ≤ nat_abs z
mag_le_abs (pos n) = omega arith
mag_le_abs (negsuc n) = omega arith

pub fits_of_size : (w : Width) (z : ℤ) → nat_abs z < 2 ^ hbits w → SFits w z
fits_of_size w z h = record { sfits = omega (arith, mag_le_abs z) }

pub fits_i32 : (z : ℤ) → nat_abs z < 2147483648 → SFits w32 z
fits_i32 z h = fits_of_size w32 z h

pub fits_i64 : (z : ℤ) → nat_abs z < 9223372036854775808 → SFits w64 z
fits_i64 z h = fits_of_size w64 z h

-- a width holds just the numbers from -2 ^ (bits - 1) up to, and not with, 2 ^ (bits - 1)
pub fits_is : (w : Width) (z : ℤ) → SFits w z ↔ (neg_ℤ (pos (2 ^ hbits w)) ≼ z) × (z ≺ pos (2 ^ hbits w))
fits_is w z = (λ f. (mag_lt z (2 ^ hbits w)).0 f.sfits, λ b. record { sfits = (mag_lt z (2 ^ hbits w)).1 b })

-- a call's result that is passed on stands as its bits, which say the same number
pub same : (z : ℤ) → mag z < 2 ^ hbits w64 → to_z w64 (of_z w64 z) ≡ z
same z h = to_z-of_z w64 z (record { sfits = h })
