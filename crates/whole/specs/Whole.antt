-- What is meant by the order of whole numbers, the part of a number above zero, a sum over a count, and a number at one place.
-- Assumes nothing.
use Rattle.std.specs.Prelude.{cond, ℕ, zero, suc, eqb, ℤ, pos, negsuc, ◌+ℤ◌, ◌≤ℤ◌, ◌<ℤ◌}

-- at most, and less: `◌≤ℤ◌` and `◌<ℤ◌` of the library, with a fixity under that of the sum (the library's bind tighter than `◌+ℤ◌`)
infix 5 ◌≼◌ ◌≺◌
abbrev pub ◌≼◌ : ℤ → ℤ → Type 0
x ≼ y = x ≤ℤ y

abbrev pub ◌≺◌ : ℤ → ℤ → Type 0
x ≺ y = x <ℤ y

-- how far a number lies above zero, and how far below
abbrev pub up : ℤ → ℕ
up (pos n) = n
up (negsuc n) = zero

abbrev pub dn : ℤ → ℕ
dn (pos n) = zero
dn (negsuc n) = suc n

-- the number where it is above zero, else 0
unfoldable pub above_zero : ℤ → ℤ
above_zero z = pos (up z)

-- f 0 + … + f (n − 1)
unfoldable pub sum : ℕ → (ℕ → ℤ) → ℤ
sum zero f = pos zero
sum (suc n) f = sum n f +ℤ f n

-- x at the place k, and 0 at every other
unfoldable pub at : ℕ → ℤ → ℕ → ℤ
at k x i = cond (eqb i k) x (pos zero)
