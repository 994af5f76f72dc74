-- What each kind of row owes to the welfare theorem: that it is priced and that it is best.
--   priced: what the item's surplus is, of a step and of a block its margins times its volumes, of a line its rent;
--   best: where the row obeys its rule, nothing that is allowed gives it a greater surplus, but for a block's part of the shortfall.
-- Assumes nothing.
use Prim.Native.Nat.{ℕ, zero, suc, ◌*◌, ◌%◌, ◌<◌, ◌≤◌}
use Rattle.std.proofs.Common.{mul_comm, eq-or-lt_of_le, arith, sym, ap, ◌∙◌, inl, inr}
use Rattle.std.specs.Prelude.{◌≡◌, ◌⊎◌, negsuc, neg_ℤ, ◌+ℤ◌, ◌-ℤ◌, ◌*ℤ◌}
use Rattle.std.proofs.Math.IntN.{ℤ, pos, zero-*ℤ, *ℤ-zero, *ℤ_comm}
use Rattle.whole.specs.Whole.{◌≼◌, ◌≺◌, sum, at, above_zero}
use Rattle.whole.specs.Ring.{given, linear, ring, ≼_refl, ≼_of_<, ≼_or_<, pos-≼, *_swap, *_mono, *_anti, *_cancel, above_zero_above, above_zero_nonneg}
use Rattle.whole.proofs.Sums.{sums, sum_scale, sum_cong, sum_mono, sum_zero, sum_times_at}
use Rattle.limits.specs.Limits.{most_ratio}
use Rattle.market.specs.Market.{Day, Choice, Prices, block_volume, step_trade, block_trade, of_sells, of_buys, volume_at, margin}
use Rattle.market.specs.Market.{surplus_of, whole_surplus, rent_at, left_surplus, missed}
use Rattle.market.specs.Rules.{CapacityAt, QuantityAt, WholeAt, StepAt, LineAt, BlockAt}
use Rattle.market.specs.Margins.{sides, gains_is, loses_is, pays_is, block_surplus, with_left}
use Rattle.market.specs.Items.{Item, all, over, surplus, surplus_all, paid_at}
use Rattle.market.specs.declared.Side.{Side}
use Rattle.market.specs.declared.Side.TheVariants.{Sell, Buy}
use Rattle.market.specs.declared.Trade.{Trade}

-- ==== what steps and blocks share: a trade

-- a buy adds limit times volume, a sell takes as much off; a sell brings its volume to its zone and period, a buy takes it away
abbrev trade_item : Trade → Item
trade_item t =
    let worth = t.limit *ℤ pos t.volume in
    record {
      value = of_buys t.side worth -ℤ of_sells t.side worth;
      brings = λ z h. of_sells t.side (volume_at z h t) -ℤ of_buys t.side (volume_at z h t);
    }

abbrev pub trade_surplus : Prices → Trade → ℤ
trade_surplus p t = margin t.side t.limit (p t.zone t.period) *ℤ pos t.volume

module _ (d : Day) (p : Prices) where
  -- f is the volume v at its zone and period, where the price is `price`
  side_priced : (side : Side) (limit price v : ℤ) (f : ℕ → ℕ → ℤ) → over d (λ z h. p z h *ℤ f z h) ≡ price *ℤ v →
      of_buys side (limit *ℤ v) -ℤ of_sells side (limit *ℤ v) +ℤ over d (λ z h. p z h *ℤ (of_sells side (f z h) -ℤ of_buys side (f z h)))
      ≡ margin side limit price *ℤ v
  side_priced Sell limit price v f e = given e (simp sides (simp sums (simp linear (omega arith))))
  side_priced Buy limit price v f e = given e (simp sides (simp sums (simp linear (omega arith))))

  trade_priced : (t : Trade) → t.zone < d.zones → t.period < d.periods → surplus d p (trade_item t) ≡ trade_surplus p t
  unfolding surplus
  trade_priced t l n =
      side_priced t.side t.limit (p t.zone t.period) (pos t.volume) (λ z h. volume_at z h t)
      (paid_at d p t.zone (at t.period (pos t.volume)) l
      ∙ sum_times_at d.periods t.period (p t.zone) (pos t.volume) n)

-- ==== what steps and lines share: where x is the upper end if a unit gains, and the lower end if it loses, nothing between gains more

ends_best : (gain x y low high : ℤ) → (pos 0 ≺ gain → x ≡ high) → (gain ≺ pos 0 → x ≡ low) → low ≼ y → y ≼ high → gain *ℤ y ≼ gain *ℤ x
ends_best (pos zero) x y low high up down l h = simp zero-*ℤ (≼_refl (pos 0))
ends_best (pos (suc k)) x y low high up down l h =
    rw (up (simp linear (omega arith))) (*_mono (pos (suc k)) y high (simp linear (omega arith)) h)
ends_best (negsuc k) x y low high up down l h =
    rw (down (simp linear (omega arith))) (*_anti (negsuc k) low y (simp linear (omega arith)) l)

-- ==== a step

unfoldable pub step_item : Day → Choice → ℕ → Item
step_item d c i = trade_item (step_trade (d.step i) (c.volume i))

unfoldable pub step_surplus : Day → Prices → Choice → ℕ → ℤ
step_surplus d p c i = trade_surplus p (step_trade (d.step i) (c.volume i))

pub step_priced : (d : Day) (p : Prices) (c : Choice) (i : ℕ) → (d.step i).zone < d.zones → (d.step i).period < d.periods →
    surplus d p (step_item d c i) ≡ step_surplus d p c i
unfolding step_item step_surplus
step_priced d p c i = trade_priced d p (step_trade (d.step i) (c.volume i))

pub step_best : (d : Day) (p : Prices) (c other : Choice) (i : ℕ) → StepAt d p c i → QuantityAt d other i →
    step_surplus d p other i ≼ step_surplus d p c i
unfolding step_surplus
step_best d p c other i rule within =
    let s = d.step i in
    let price = p s.zone s.period in
    ends_best (margin s.side s.limit price) (pos (c.volume i)) (pos (other.volume i)) (pos 0) (pos s.quantity)
    (λ g. ap pos (rule.0 ((gains_is s.side s.limit price).0 g)))
    (λ g. ap pos (rule.1 ((loses_is s.side s.limit price).0 g)))
    (simp linear (omega arith)) ((pos-≼ (other.volume i) s.quantity).1 within)

-- ==== a line

-- it has no limit; it takes its flow from "from" and brings it to "to"
unfoldable pub line_item : Day → Choice → ℕ → Item
line_item d c l =
    record { value = pos 0; brings = λ z h. at (d.line l).to (c.flow l h) z -ℤ at (d.line l).from (c.flow l h) z }

unfoldable pub line_rent : Day → Prices → Choice → ℕ → ℤ
line_rent d p c l = sum d.periods (λ h. rent_at d p c l h)

pub line_priced : (d : Day) (p : Prices) (c : Choice) (l : ℕ) → (d.line l).from < d.zones → (d.line l).to < d.zones →
    surplus d p (line_item d c l) ≡ line_rent d p c l
unfolding surplus line_item line_rent
line_priced d p c l from to =
    given (paid_at d p (d.line l).to (c.flow l) to) (given (paid_at d p (d.line l).from (c.flow l) from)
    (simp sums (simp linear (omega arith))))

pub line_best : (d : Day) (p : Prices) (c other : Choice) (l : ℕ) →
    ((h : ℕ) → h < d.periods → LineAt d p c l h) → ((h : ℕ) → h < d.periods → CapacityAt d other l h) →
    line_rent d p other l ≼ line_rent d p c l
unfolding line_rent
line_best d p c other l rule within = sum_mono d.periods _ _ λ h n.
    given (ends_best (p (d.line l).to h -ℤ p (d.line l).from h) (c.flow l h) (other.flow l h) (neg_ℤ (d.back l h)) (d.forward l h)
    (λ g. (rule h n).0 (given g (simp linear (omega arith)))) (λ g. (rule h n).1 (given g (simp linear (omega arith))))
    (within h n).1 (within h n).0) (simp ring (omega arith))

-- ==== a block

-- what is accepted of it, a trade for each period
unfoldable pub block_item : Day → Choice → ℕ → Item
block_item d c k = all d.periods (λ h. trade_item (block_trade (d.block k) h (block_volume (c.ratio k) (d.quantity k h))))

pub block_priced : (d : Day) (p : Prices) (c : Choice) (k : ℕ) → (d.block k).zone < d.zones →
    surplus d p (block_item d c k) ≡ block_surplus d p c k
unfolding block_item surplus_of
block_priced d p c k l =
    let trade : ℕ → Trade = λ h. block_trade (d.block k) h (block_volume (c.ratio k) (d.quantity k h)) in
    surplus_all d p d.periods (λ h. trade_item (trade h)) ∙ sum_cong d.periods _ _ (λ h n. trade_priced d p (trade h) l n)

-- a volume that is whole: a thousand of it is quantity times ratio
a_thousand : (ratio quantity : ℕ) → quantity * ratio % most_ratio ≡ 0 → most_ratio * block_volume ratio quantity ≡ ratio * quantity
unfolding block_volume
a_thousand ratio quantity e = rw (mul_comm ratio quantity) (omega arith)

-- of nothing nothing
no_volume : (quantity : ℕ) → block_volume 0 quantity ≡ 0
unfolding block_volume
no_volume quantity = omega arith

module _ (d : Day) (p : Prices) (c : Choice) (k : ℕ) where
  -- where its volumes are whole, a thousand times its surplus is its ratio of the whole block's
  pub in_thousandths : ((h : ℕ) → h < d.periods → WholeAt d c k h) →
      pos most_ratio *ℤ block_surplus d p c k ≡ pos (c.ratio k) *ℤ whole_surplus d p k
  unfolding surplus_of
  in_thousandths whole =
      simp (← sum_scale) (sum_cong d.periods _ _ (λ h n.
      rw (*_swap (pos most_ratio) (unit h) (pos (volume h)), *_swap (pos (c.ratio k)) (unit h) (pos (d.quantity k h)))
      (ap (λ (v : ℕ). unit h *ℤ pos v) (a_thousand (c.ratio k) (d.quantity k h) (whole h n)))))
    where
      unit : ℕ → ℤ
      unit h = margin (d.block k).side (d.block k).limit (p (d.block k).zone h)

      volume : ℕ → ℕ
      volume h = block_volume (c.ratio k) (d.quantity k h)

  -- rejected, it has none
  none_taken : c.ratio k ≡ 0 → block_surplus d p c k ≡ pos 0
  unfolding surplus_of
  none_taken e = rw e (simp (no_volume, *ℤ-zero, sum_zero))

  -- accepted, the whole block does not lose
  does_not_lose : BlockAt d p c k → 0 < c.ratio k → pos 0 ≼ whole_surplus d p k
  unfolding surplus_of
  does_not_lose rule l = (pays_is d.periods (d.block k).side (d.block k).limit (p (d.block k).zone) (d.quantity k)).1 (rule l)

-- A block whose whole surplus is not below zero has at most that surplus at any ratio, and what is accepted and what is left make it up. One
-- whose whole surplus is below zero is rejected, and at no ratio gains.
left_best : (other taken left whole : ℤ) (ratio mine : ℕ) → pos most_ratio *ℤ other ≡ pos ratio *ℤ whole → ratio ≤ most_ratio →
    taken +ℤ left ≡ whole → (0 < mine → pos 0 ≼ whole) → (mine ≡ 0 → taken ≡ pos 0) → other ≼ taken +ℤ above_zero left
left_best other taken left whole ratio mine thousand most sum pays none = by (≼_or_< (pos 0) whole) (eq-or-lt_of_le (omega arith))
  where
    by : (pos 0 ≼ whole) ⊎ (whole ≺ pos 0) → (0 ≡ mine) ⊎ (0 < mine) → other ≼ taken +ℤ above_zero left
    by (inl w) _ =
        let at_most : other ≼ whole = *_cancel (pos most_ratio) other whole (simp linear (omega arith))
        (rw (thousand, *ℤ_comm (pos ratio) whole, *ℤ_comm (pos most_ratio) whole)
        (*_mono whole (pos ratio) (pos most_ratio) w ((pos-≼ ratio most_ratio).1 most))) in
        given at_most (given (above_zero_above left) (given sum (simp linear (omega arith))))
    by (inr w) (inr l) = absurd (given (pays l) (given w (simp linear (omega arith))))
    by (inr w) (inl z) =
        let none_gained : other ≼ pos 0 = *_cancel (pos most_ratio) other (pos 0) (simp linear (omega arith))
        (rw thousand (given (*_mono (pos ratio) whole (pos 0) (simp linear (omega arith)) (≼_of_< w)) (simp linear (omega arith)))) in
        given none_gained (given (above_zero_nonneg left) (given (none (sym z)) (simp linear (omega arith))))

pub block_best : (d : Day) (p : Prices) (c other : Choice) (k : ℕ) → BlockAt d p c k →
    other.ratio k ≤ most_ratio → ((h : ℕ) → h < d.periods → WholeAt d other k h) →
    block_surplus d p other k ≼ block_surplus d p c k +ℤ missed d p c k
block_best d p c other k rule most whole =
    left_best (block_surplus d p other k) (block_surplus d p c k) (left_surplus d p c k) (whole_surplus d p k) (other.ratio k) (c.ratio k)
    (in_thousandths d p other k whole) most (with_left d p c k) (does_not_lose d p c k rule) (none_taken d p c k)
