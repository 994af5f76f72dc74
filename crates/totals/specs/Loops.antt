-- A loop that adds up f in an i64: what it has at each place, with one more term, and in the end. Assumes nothing.
use Rattle.std.specs.Prelude.{ℕ, ◌+◌, ◌≤◌, ◌<◌, ◌^◌, ◌≡◌, refl, ℤ, pos, nat_abs, ◌+ℤ◌}
use Rattle.std.proofs.Common.{le_antisymm, arith, ◌∙◌}
use mir.Val.{SFits, hbits, to_z, of_z}
use Rattle.std.specs.Int.Signed.{mag}
use Rattle.std.specs.Int.{w64}
use Rattle.whole.specs.Whole.{sum}
use Rattle.whole.proofs.Sums.{sum_next}
use Rattle.whole.proofs.Size.{fits_i64, same}

-- n calls: the one at i gives the term i of f, by what is known of the answer of each
pub record Gives (n : ℕ) (answers : ℕ → ℤ → Type 0) (f : ℕ → ℤ) : Type 0 where
  pub each : (i : ℕ) (r : ℤ) → i < n → answers i r → r ≡ f i

-- no sum on the way to n terms of f is beyond an i64
pub record PartsFit (n : ℕ) (f : ℕ → ℤ) : Type 0 where
  pub size : (k : ℕ) → k ≤ n → nat_abs (sum k f) < 9223372036854775808

-- at the place i of n, `all` is the sum of the terms before i
pub record Summed (f : ℕ → ℤ) (n i : ℕ) (all : ℤ) : Type 0 where
  pub within : i ≤ n
  pub sum_is : all ≡ sum i f

pub none_summed : {f : ℕ → ℤ} {n : ℕ} → Summed f n 0 (pos 0)
unfolding sum
none_summed = record { within = omega arith; sum_is = refl }

module _ {f : ℕ → ℤ} {n i : ℕ} {all : ℤ} (s : Summed f n i all) where
  pub all_summed : n ≤ i → all ≡ sum n f
  all_summed l = rw (le_antisymm s.within l) at s.sum_is

  -- i is below n, the call that gives the term i answers x, and r is what adding it gives
  module _ (l : i < n) {x : ℤ} (x_fits : mag x < 2 ^ hbits w64) (term : x ≡ f i) where
    more : all +ℤ to_z w64 (of_z w64 x) ≡ sum (i + 1) f
    more = rw (sum_next, same x x_fits, s.sum_is, term)

    pub more_fits : {most : ℕ} → ((k : ℕ) → k ≤ n → nat_abs (sum k f) ≤ most) → most < 9223372036854775808 →
        SFits w64 (all +ℤ to_z w64 (of_z w64 x))
    more_fits size small = rw more (fits_i64 _ (omega (arith, size (i + 1) (omega arith))))

    pub more_summed : {r : ℤ} → mag r < 2 ^ hbits w64 → r ≡ all +ℤ to_z w64 (of_z w64 x) → Summed f n (i + 1) (to_z w64 (of_z w64 r))
    more_summed {r} r_fits e = record { within = omega arith; sum_is = same r r_fits ∙ e ∙ more }
