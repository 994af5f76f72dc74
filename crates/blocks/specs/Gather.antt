-- The laws by which the two walks over a block's periods gather, and by which the sums grow. Assumes nothing.
use Rattle.std.specs.Prelude.{ℕ, zero, suc, ◌+◌, ◌*◌, ◌/◌, ◌%◌, ◌≤◌, ◌<◌, ◌≡◌, refl, true, ◌&&◌, List, leb, ltb, ℤ, pos, nat_abs, ◌+ℤ◌, ◌-ℤ◌, ◌*ℤ◌, length, get_or}
use Rattle.std.proofs.Common.{le_trans, eq-or-lt_of_le, mul-le-mul, arith, sym, ⊎_elim, SFits}
use Rattle.std.specs.Int.Bits.{bit_or, or_add_and}
use Rattle.std.proofs.lemmas.Nat.{and_le_l, and_le_r}
use Rattle.std.specs.Int.{w64}
use Rattle.whole.specs.Whole.{◌≼◌, sum, at}
use Rattle.whole.specs.Ring.{given, linear, le_z_true}
use Rattle.whole.proofs.Sums.{sums, sum_next, sum_nonneg}
use Rattle.whole.proofs.Size.{abs_neg, abs-+, at_size, sum_within, fits_i64}
use Rattle.cells.specs.Gains.{SumsWithin}
use Rattle.cells.specs.Cells.{Within, added, nothing_gained, gained_at, gained_then, gained_same, within_gained}
use Rattle.stages.specs.First.{both, leb_is, ltb_is, eqb_is}
use Rattle.limits.specs.Limits.{most_periods, most_price, most_volume, most_ratio, is_price}
use Rattle.market.specs.Market.{block_volume}
use Rattle.market.specs.Rules.{whole_ok}
use Rattle.market.proofs.MeasureLaws.{thousandths_most}
use Rattle.market.specs.declared.Side.{Side}
use Rattle.market.specs.declared.Side.TheVariants.{Sell, Buy}
use Rattle.rows.specs.Rows.{block_zone, block_side, block_least, block_price}
use Rattle.blocks.specs.Block.{HeadRow, WalkedTo, signed_volume, brings, BroughtTo, shared, part_of}

-- ---- the head of a row

pub head_row : (zones : ℕ) (part : List ℕ) (at : ℕ) →
    (((ltb (block_zone part at) zones && leb (block_side part at) 1) && leb (block_least part at) most_ratio) && is_price (block_price part at)) ≡ true →
    HeadRow zones part at
head_row zones part at e =
    let h = simp (both, ltb_is, leb_is, le_z_true) at e in
    record {
      zone_is = h.0.0.0;
      side_is = h.0.0.1;
      least_is = h.0.1;
      price_is = record { low = h.1.0; high = h.1.1 };
    }

-- ---- the first walk

-- two numbers' bits are no number below either
pub either_above : (a b : ℕ) → (a ≤ bit_or a b) × (b ≤ bit_or a b)
either_above a b = (omega (arith, or_add_and a b, and_le_r a b), omega (arith, or_add_and a b, and_le_l a b))

module _ {quantity : ℕ → ℕ} {price : ℕ → ℤ} where
  pub none_walked : WalkedTo quantity price 0 0 0 0
  unfolding sum
  none_walked = record {
    all_is = refl;
    worth_is = refl;
    bits_above = λ h l. absurd (omega arith);
    all_small = omega arith;
    worth_small = omega arith;
  }

  -- one period more
  pub more_walked : {n all worth bits all₁ worth₁ bits₁ raised : ℕ} → WalkedTo quantity price n all worth bits → quantity n < 4294967296 →
      (pos raised ≡ price n +ℤ pos most_price) × (raised ≤ 2000000) →
      all₁ ≡ all + quantity n → worth₁ ≡ worth + raised * quantity n → (bits ≤ bits₁) × (quantity n ≤ bits₁) →
      WalkedTo quantity price (n + 1) all₁ worth₁ bits₁
  more_walked {n} {raised = raised} w q p a v b =
      let product : raised * quantity n ≤ 2000000 * 4294967295 = mul-le-mul {n₂ = 2000000} {m₂ = 4294967295} p.1 (omega arith) in
      record {
        all_is = rw (a, sum_next, ← w.all_is);
        worth_is = rw (v, sum_next, ← w.worth_is, ← p.0);
        bits_above = λ h l. ⊎_elim (λ (e : h ≡ n). rw e b.1) (λ (m : h < n). le_trans (w.bits_above h m) b.0) (eq-or-lt_of_le (omega arith));
        all_small = omega (arith, w.all_small);
        worth_small = omega (arith, w.worth_small);
      }

  pub walked_small : {n all worth bits : ℕ} → WalkedTo quantity price n all worth bits → n ≤ most_periods →
      (all ≤ 1000000000000) × (worth ≤ 1000000000000000000)
  walked_small w few = (omega (arith, w.all_small), omega (arith, w.worth_small))

-- ---- the second walk

-- what a ratio accepts of a quantity
pub volume_most : {ratio quantity : ℕ} → ratio ≤ most_ratio → quantity ≤ most_volume → block_volume ratio quantity ≤ most_volume
unfolding block_volume
volume_most {ratio} {quantity} r q = omega (arith, thousandths_most ratio quantity r q)

signed_size : (side : Side) (volume : ℕ) → nat_abs (signed_volume side volume) ≤ volume
signed_size Sell volume = omega arith
signed_size Buy volume = omega (arith, abs_neg (pos volume))

-- what is held may grow by a signed volume
pub volume_fits : (side : Side) (held : ℤ) (volume : ℕ) → nat_abs held ≤ 3000000000000000000 → volume ≤ most_volume → SFits w64 (held +ℤ signed_volume side volume)
volume_fits side held volume h v =
    fits_i64 _ (omega (arith, abs-+ held (signed_volume side volume), signed_size side volume))

module _ {zones periods zone : ℕ} {side : Side} {volume : ℕ → ℕ} where
  pub none_brought : {nets : List ℤ} → BroughtTo zones periods zone side volume 0 0 nets nets
  unfolding sum
  none_brought = record { volumes_are = refl; nets = nothing_gained }

  module _ {n volumes : ℕ} {nets₀ nets₁ : List ℤ} (b : BroughtTo zones periods zone side volume n volumes nets₀ nets₁) where
    -- one period more
    pub more_brought : {volumes₁ : ℕ} {nets₂ : List ℤ} → volumes₁ ≡ volumes + volume n → n < periods → zone * periods + n < length nets₁ →
        nets₂ ≡ added nets₁ (zone * periods + n) (signed_volume side (volume n)) → BroughtTo zones periods zone side volume (n + 1) volumes₁ nets₀ nets₂
    more_brought e l k a = record {
      volumes_are = rw (e, sum_next, ← b.volumes_are);
      nets = rw a (gained_same (gained_then b.nets (gained_at zone n k l (signed_volume side (volume n)))) (λ z h _ _. sym (sum_next n _)));
    }

    module _ (few : n ≤ most_periods) (small : (h : ℕ) → h < n → volume h ≤ most_volume) where
      brings_size : (z h : ℕ) → nat_abs (brings zone side volume n z h) ≤ 25000000
      brings_size z h = sum_within n most_periods _ most_volume few (λ i l.
          let x = signed_volume side (volume i) in
          le_trans (at_size zone (at i x h) z) (le_trans (at_size i x h) (le_trans (signed_size side (volume i)) (small i l))))

      pub volumes_size : volumes ≤ 25000000
      volumes_size = rw (← b.volumes_are) at (sum_within n most_periods (λ h. pos (volume h)) most_volume few small)

      -- what the net position of a period holds
      pub held_size : {period : ℕ} → zone < zones → period < periods → Within zones periods 2000000000000000000 nets₀ →
          nat_abs (get_or nets₁ (zone * periods + period) (pos 0)) ≤ 3000000000000000000
      held_size {period} l k w =
          omega (arith, within_gained b.nets {bound = 2000000000000000000} {more = 25000000} w (λ z h _ _. brings_size z h) zone period l k)

-- ---- the sums

pub shared_size : (side : Side) (accepted volumes : ℤ) → nat_abs accepted ≤ 50000000000000 → nat_abs volumes ≤ 1000000000000 →
    SumsWithin 100000000000000 (shared side accepted volumes)
shared_size Sell accepted volumes a v = record {
  buyers = omega arith;
  sellers = omega arith;
  rent = omega arith;
  traded = omega arith;
  shortfall = omega arith;
}
shared_size Buy accepted volumes a v = record {
  buyers = omega arith;
  sellers = omega arith;
  rent = omega arith;
  traded = omega arith;
  shortfall = omega arith;
}

-- the surplus of what is accepted is no larger than that of the whole
pub part_size : (surplus : ℤ) (ratio : ℕ) → nat_abs surplus ≤ 50000000000000 → ratio ≤ most_ratio → nat_abs (part_of surplus ratio) ≤ 50000000000000
part_size surplus ratio s r =
    let h : nat_abs surplus * ratio ≤ 50000000000000 * 1000 = mul-le-mul {n₂ = 50000000000000} {m₂ = 1000} s r in
    omega arith

-- ---- whole volumes

-- no term below zero and the sum is zero, so each term is
no_rest : (n : ℕ) (f : ℕ → ℤ) → ((i : ℕ) → i < n → pos 0 ≼ f i) → sum n f ≡ pos 0 → (i : ℕ) → i < n → f i ≡ pos 0
unfolding sum
no_rest zero f least e i l = absurd (omega arith)
no_rest (suc n) f least e i l =
    let before = sum_nonneg n f (λ j k. least j (omega arith)) in
    let last = least n (omega arith) in
    ⊎_elim
    (λ (same : i ≡ n). rw same (given before (given last (given e (simp linear (omega arith))))))
    (λ (less : i < n). no_rest n f (λ j k. least j (omega arith)) (given before (given last (given e (simp linear (omega arith))))) i less)
    (eq-or-lt_of_le (omega arith))

-- a thousand times all volumes are the ratio times all quantities: then each volume is whole, since none is above its part
pub all_whole : (n ratio all volumes : ℕ) (quantity : ℕ → ℕ) → pos all ≡ sum n (λ h. pos (quantity h)) →
    pos volumes ≡ sum n (λ h. pos (block_volume ratio (quantity h))) → volumes * 1000 ≡ all * ratio →
    (h : ℕ) → h < n → whole_ok ratio (quantity h) ≡ true
unfolding block_volume
all_whole n ratio all volumes quantity a v e h l =
    (eqb_is (quantity h * ratio % most_ratio) 0).1 (exact (no_rest n rest least none h l))
  where
    rest : ℕ → ℤ
    rest i = pos (quantity i) *ℤ pos ratio -ℤ pos (quantity i * ratio / most_ratio) *ℤ pos most_ratio

    exact : rest h ≡ pos 0 → quantity h * ratio % most_ratio ≡ 0
    exact = simp linear (omega arith)

    least : (i : ℕ) → i < n → pos 0 ≼ rest i
    least i k = simp linear (omega arith)

    none : sum n rest ≡ pos 0
    none = simp sums (rw (← a, ← v) (given e (simp linear (omega arith))))
