-- What is gathered of a block is what the market measures of it. Assumes nothing.
use Rattle.std.specs.Prelude.{ℕ, ◌<◌, ◌≡◌, ℤ, negsuc, neg_ℤ, ◌+ℤ◌, ◌-ℤ◌, ◌*ℤ◌}
use Rattle.std.proofs.Common.{arith, ◌∙◌}
use Rattle.std.proofs.Math.Path.{refl}
use Rattle.std.proofs.Math.IntN.{pos, zero-*ℤ}
use Rattle.whole.specs.Whole.{◌≼◌, sum, at}
use Rattle.whole.specs.Ring.{given, linear}
use Rattle.whole.proofs.Sums.{sums, sum_cong, sum_zero}
use Rattle.limits.specs.Limits.{most_price, most_ratio}
use Rattle.cells.specs.Cells.{at_none, at_neg}
use Rattle.market.specs.Market.{Day, Choice, Prices, block_volume, of_sells, of_buys, margin, surplus_of, whole_surplus}
use Rattle.market.specs.Rules.{WholeAt}
use Rattle.market.specs.Measures.{gain, by_side, measured, block_measured}
use Rattle.market.proofs.MeasureLaws.{left_is}
use Rattle.market.specs.Margins.{block_surplus, with_left}
use Rattle.market.proofs.KindLaws.{in_thousandths}
use Rattle.market.specs.declared.Side.{Side}
use Rattle.market.specs.declared.Side.TheVariants.{Sell, Buy}
use Rattle.market.specs.declared.Measure.TheVariants.{Buyers, Sellers, Traded, Surplus, Net}
use Rattle.blocks.specs.Block.{surplus_by, signed_volume, brings, part_of}

-- ---- by the side

sold_part : (side : Side) (n : ℕ) (f g : ℕ → ℤ) → sum n (λ h. by_side side (f h) (pos 0)) ≡ of_sells side (sum n (λ h. by_side side (f h) (g h)))
sold_part Sell n f g = refl
sold_part Buy n f g = sum_zero n _ (λ h _. refl)

bought_part : (side : Side) (n : ℕ) (f g : ℕ → ℤ) → sum n (λ h. by_side side (pos 0) (g h)) ≡ of_buys side (sum n (λ h. by_side side (f h) (g h)))
bought_part Sell n f g = sum_zero n _ (λ h _. refl)
bought_part Buy n f g = refl

brought : (side : Side) (zone i volume z h : ℕ) →
    by_side side (at zone (at i (pos volume) h) z) (neg_ℤ (at zone (at i (pos volume) h) z)) ≡ at zone (at i (signed_volume side volume) h) z
brought Sell zone i volume z h = refl
brought Buy zone i volume z h = rw (at_neg, at_neg)

surplus_by_lem : (side : Side) (limit : ℤ) (price : ℕ → ℤ) (quantity : ℕ → ℕ) (n : ℕ) (all worth : ℤ) → all ≡ sum n (λ h. pos (quantity h)) →
    worth ≡ sum n (λ h. (price h +ℤ pos most_price) *ℤ pos (quantity h)) →
    sum n (λ h. margin side limit (price h) *ℤ pos (quantity h))
    ≡ by_side side (worth -ℤ (limit +ℤ pos most_price) *ℤ all) ((limit +ℤ pos most_price) *ℤ all -ℤ worth)
surplus_by_lem Sell limit price quantity n all worth a w = rw (a, w) (simp sums (simp linear (omega arith)))
surplus_by_lem Buy limit price quantity n all worth a w = rw (a, w) (simp sums (simp linear (omega arith)))

no_volume : (quantity : ℕ) → block_volume 0 quantity ≡ 0
unfolding block_volume
no_volume quantity = omega arith

-- ---- a block at a ratio

module _ (d : Day) (p : Prices) (k ratio : ℕ) where
  abbrev volume : ℕ → ℕ
  volume h = block_volume ratio (d.quantity k h)

  pub sellers_is : block_measured d p Sellers k ratio ≡ of_sells (d.block k).side (block_measured d p Surplus k ratio)
  unfolding block_measured measured
  sellers_is =
      let b = d.block k in
      sold_part b.side d.periods (λ h. gain (p b.zone h) b.limit (volume h)) (λ h. gain b.limit (p b.zone h) (volume h))

  pub buyers_is : block_measured d p Buyers k ratio ≡ of_buys (d.block k).side (block_measured d p Surplus k ratio)
  unfolding block_measured measured
  buyers_is =
      let b = d.block k in
      bought_part b.side d.periods (λ h. gain (p b.zone h) b.limit (volume h)) (λ h. gain b.limit (p b.zone h) (volume h))

  pub traded_is : block_measured d p Traded k ratio ≡ of_buys (d.block k).side (sum d.periods (λ h. pos (volume h)))
  unfolding block_measured measured
  traded_is = by (d.block k).side
    where
      by : (side : Side) → sum d.periods (λ h. by_side side (pos 0) (pos (volume h))) ≡ of_buys side (sum d.periods (λ h. pos (volume h)))
      by Sell = sum_zero d.periods _ (λ h _. refl)
      by Buy = refl

  pub net_is : (z h : ℕ) → block_measured d p (Net z h) k ratio ≡ brings (d.block k).zone (d.block k).side volume d.periods z h
  unfolding block_measured measured
  net_is z h = sum_cong d.periods _ _ (λ i _. brought (d.block k).side (d.block k).zone i (volume i) z h)

-- ---- the whole, what is accepted, what is left

module _ (d : Day) (p : Prices) (c : Choice) (k : ℕ) where
  pub whole_surplus_is : (all worth : ℕ) → pos all ≡ sum d.periods (λ h. pos (d.quantity k h)) →
      pos worth ≡ sum d.periods (λ h. (p (d.block k).zone h +ℤ pos most_price) *ℤ pos (d.quantity k h)) →
      whole_surplus d p k ≡ surplus_by (d.block k).side (d.block k).limit all worth
  unfolding surplus_of
  whole_surplus_is all worth = surplus_by_lem (d.block k).side (d.block k).limit (p (d.block k).zone) (d.quantity k) d.periods (pos all) (pos worth)

  taken_is : block_measured d p Surplus k (c.ratio k) ≡ block_surplus d p c k
  taken_is = given (left_is d p c k) (given (with_left d p c k) (simp linear (omega arith)))

  module _ (whole : (h : ℕ) → h < d.periods → WholeAt d c k h) where
    pub accepted_is : pos 0 ≼ whole_surplus d p k → block_measured d p Surplus k (c.ratio k) ≡ part_of (whole_surplus d p k) (c.ratio k)
    accepted_is l = rw taken_is (by (whole_surplus d p k) (in_thousandths d p c k whole) l)
      where
        by : (w : ℤ) → pos most_ratio *ℤ block_surplus d p c k ≡ pos (c.ratio k) *ℤ w → pos 0 ≼ w → block_surplus d p c k ≡ part_of w (c.ratio k)
        by (pos w) e _ = given e (simp linear (omega arith))
        by (negsuc w) e l = absurd l.le

  -- of nothing nothing
  module _ (none : c.ratio k ≡ 0) where
    pub none_accepted : block_measured d p Surplus k (c.ratio k) ≡ pos 0
    none_accepted = rw taken_is (by (c.ratio k) none (in_thousandths d p c k (λ h _. rw none (omega arith))))
      where
        by : (r : ℕ) → r ≡ 0 → pos most_ratio *ℤ block_surplus d p c k ≡ pos r *ℤ whole_surplus d p k → block_surplus d p c k ≡ pos 0
        by r z e = given (simp (z, zero-*ℤ) at e) (simp linear (omega arith))

    nothing_at : (side : Side) (zone i z h : ℕ) → at zone (at i (signed_volume side 0) h) z ≡ pos 0
    nothing_at Sell zone i z h = rw (at_none, at_none)
    nothing_at Buy zone i z h = rw (at_none, at_none)

    pub none_volumes : sum d.periods (λ h. pos (block_volume (c.ratio k) (d.quantity k h))) ≡ pos 0
    none_volumes = sum_zero d.periods _ (λ h _. rw (none, no_volume))

    pub nothing_brought : (z h : ℕ) → block_measured d p (Net z h) k (c.ratio k) ≡ pos 0
    nothing_brought z h =
        net_is d p k (c.ratio k) z h
        ∙ sum_zero d.periods _ (λ i _. rw (none, no_volume) (nothing_at (d.block k).side (d.block k).zone i z h))
