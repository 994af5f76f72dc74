-- The five sums: no further from zero than a bound, and what they gain, a number for each. A gain is written as sums, too. Assumes nothing.
use Rattle.std.specs.Prelude.{ℕ, ◌+◌, ◌*◌, ◌≤◌, ◌<◌, ◌≡◌, ℤ, pos, nat_abs, ◌+ℤ◌}
use Rattle.std.proofs.Common.{arith, sym, SFits, to_z, of_z}
use Rattle.std.specs.Int.{w64}
use Rattle.std.proofs.lemmas.Int.{to_z-of_z}
use Rattle.std.proofs.Math.IntN.{+ℤ_idr, +ℤ_assoc}
use Rattle.whole.specs.Whole.{sum}
use Rattle.whole.proofs.Sums.{sum_next}
use Rattle.whole.proofs.Size.{abs-+, sum_within, fits_i64}
use Rattle.cells.specs.declared.Sums.{Sums}

abbrev pub nothing : Sums
nothing = record { buyers = pos 0; sellers = pos 0; rent = pos 0; traded = pos 0; shortfall = pos 0 }

-- n gains, one after the other
abbrev pub all : ℕ → (ℕ → Sums) → Sums
all n gains = record {
  buyers = sum n (λ i. (gains i).buyers);
  sellers = sum n (λ i. (gains i).sellers);
  rent = sum n (λ i. (gains i).rent);
  traded = sum n (λ i. (gains i).traded);
  shortfall = sum n (λ i. (gains i).shortfall);
}

-- no sum further from zero than the bound
pub record SumsWithin (bound : ℕ) (sums : Sums) : Type 0 where
  pub buyers : nat_abs sums.buyers ≤ bound
  pub sellers : nat_abs sums.sellers ≤ bound
  pub rent : nat_abs sums.rent ≤ bound
  pub traded : nat_abs sums.traded ≤ bound
  pub shortfall : nat_abs sums.shortfall ≤ bound

-- each sum is more by what is gained of it
pub record SumsGained (gain before after : Sums) : Type 0 where
  pub buyers : after.buyers ≡ before.buyers +ℤ gain.buyers
  pub sellers : after.sellers ≡ before.sellers +ℤ gain.sellers
  pub rent : after.rent ≡ before.rent +ℤ gain.rent
  pub traded : after.traded ≡ before.traded +ℤ gain.traded
  pub shortfall : after.shortfall ≡ before.shortfall +ℤ gain.shortfall

-- ---- laws

pub nothing_within : (bound : ℕ) → SumsWithin bound nothing
nothing_within bound = record { buyers = omega arith; sellers = omega arith; rent = omega arith; traded = omega arith; shortfall = omega arith }

pub within_more : {bound room : ℕ} {sums : Sums} → SumsWithin bound sums → bound ≤ room → SumsWithin room sums
within_more w l = record {
  buyers = omega (arith, w.buyers);
  sellers = omega (arith, w.sellers);
  rent = omega (arith, w.rent);
  traded = omega (arith, w.traded);
  shortfall = omega (arith, w.shortfall);
}

-- of n gains each within the size, none is more than the most
pub all_within : (n most size : ℕ) (gains : ℕ → Sums) → n ≤ most → ((i : ℕ) → i < n → SumsWithin size (gains i)) → SumsWithin (most * size) (all n gains)
all_within n most size gains l small = record {
  buyers = sum_within n most (λ i. (gains i).buyers) size l (λ i m. (small i m).buyers);
  sellers = sum_within n most (λ i. (gains i).sellers) size l (λ i m. (small i m).sellers);
  rent = sum_within n most (λ i. (gains i).rent) size l (λ i m. (small i m).rent);
  traded = sum_within n most (λ i. (gains i).traded) size l (λ i m. (small i m).traded);
  shortfall = sum_within n most (λ i. (gains i).shortfall) size l (λ i m. (small i m).shortfall);
}

pub no_gain : {a : Sums} → SumsGained nothing a a
no_gain = record {
  buyers = sym (+ℤ_idr _);
  sellers = sym (+ℤ_idr _);
  rent = sym (+ℤ_idr _);
  traded = sym (+ℤ_idr _);
  shortfall = sym (+ℤ_idr _);
}

module _ {f a b : Sums} (s : SumsGained f a b) where
  -- and one more
  pub gained_then : {g c : Sums} → SumsGained g b c → SumsGained (record {
    buyers = f.buyers +ℤ g.buyers;
    sellers = f.sellers +ℤ g.sellers;
    rent = f.rent +ℤ g.rent;
    traded = f.traded +ℤ g.traded;
    shortfall = f.shortfall +ℤ g.shortfall;
  }) a c
  gained_then t = record {
    buyers = rw (t.buyers, s.buyers, +ℤ_assoc);
    sellers = rw (t.sellers, s.sellers, +ℤ_assoc);
    rent = rw (t.rent, s.rent, +ℤ_assoc);
    traded = rw (t.traded, s.traded, +ℤ_assoc);
    shortfall = rw (t.shortfall, s.shortfall, +ℤ_assoc);
  }

  pub within_gained : {bound more : ℕ} → SumsWithin bound a → SumsWithin more f → SumsWithin (bound + more) b
  within_gained w m = record {
    buyers = rw s.buyers (omega (arith, abs-+ a.buyers f.buyers, w.buyers, m.buyers));
    sellers = rw s.sellers (omega (arith, abs-+ a.sellers f.sellers, w.sellers, m.sellers));
    rent = rw s.rent (omega (arith, abs-+ a.rent f.rent, w.rent, m.rent));
    traded = rw s.traded (omega (arith, abs-+ a.traded f.traded, w.traded, m.traded));
    shortfall = rw s.shortfall (omega (arith, abs-+ a.shortfall f.shortfall, w.shortfall, m.shortfall));
  }

-- n gains and the next
pub gained_next : (n : ℕ) (gains : ℕ → Sums) {a b c : Sums} → SumsGained (all n gains) a b → SumsGained (gains n) b c → SumsGained (all (n + 1) gains) a c
gained_next n gains s t =
    let u = gained_then s t in
    record {
      buyers = rw sum_next u.buyers;
      sellers = rw sum_next u.sellers;
      rent = rw sum_next u.rent;
      traded = rw sum_next u.traded;
      shortfall = rw sum_next u.shortfall;
    }

-- ---- one sum, as it is added to: what is held is read from its bits

module _ (held x : ℤ) {bound more : ℕ} (h : nat_abs held ≤ bound) (k : nat_abs x ≤ more) (l : bound + more < 9223372036854775808) where
  held_is : to_z w64 (of_z w64 held) ≡ held
  held_is = to_z-of_z w64 held (fits_i64 held (omega arith))

  pub more_fits : SFits w64 (to_z w64 (of_z w64 held) +ℤ x)
  more_fits = rw held_is (fits_i64 _ (omega (arith, abs-+ held x)))

  pub more_is : to_z w64 (of_z w64 (to_z w64 (of_z w64 held) +ℤ x)) ≡ held +ℤ x
  more_is = rw (to_z-of_z w64 _ more_fits, held_is)
