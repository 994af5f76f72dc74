-- The sums of what is counted are the totals and the net positions; and how large they, and the sums a loop meets on the way, can be.
-- Assumes nothing.
use Rattle.std.specs.Prelude.{ℕ, ◌*◌, ◌<◌, ◌≤◌, ◌≡◌, ℤ, pos, neg_ℤ, nat_abs, ◌+ℤ◌, ◌-ℤ◌, ◌*ℤ◌}
use Rattle.std.proofs.Common.{le_trans, le_refl, mul-le-mul, arith, ◌∙◌}
use Rattle.std.proofs.Math.Path.{refl, sym}
use Rattle.whole.specs.Whole.{sum, at}
use Rattle.whole.specs.Ring.{given, linear, ring}
use Rattle.whole.proofs.Sums.{sums, sum_cong}
use Rattle.whole.proofs.Size.{abs_neg, abs--, abs-*-≤, at_size, above_zero_size, sum_within}
use Rattle.limits.specs.Limits.{most_periods, most_lines, most_steps, most_blocks, most_price, most_flow, most_volume, most_ratio}
use Rattle.market.specs.Market.{Day, Choice, Prices, block_volume, step_trade, block_trade, of_sells, of_buys, volume_at, margin}
use Rattle.market.specs.Market.{accepted, net_position, leaving, entering, order_value, traded_volume, surplus_of, whole_surplus, left_surplus, missed}
use Rattle.market.specs.Market.{buyer_surplus, seller_surplus, rent_at}
use Rattle.market.specs.Range.{Placed, Ranged}
use Rattle.market.specs.Margins.{accepted_cong, accepted_minus, with_left}
use Rattle.market.specs.Measures.{line_leaves, gain, sold, bought, by_side, measured, priced, Small, step_measured, block_measured}
use Rattle.market.specs.declared.Side.{Side}
use Rattle.market.specs.declared.Side.TheVariants.{Sell, Buy}
use Rattle.market.specs.declared.Trade.{Trade}
use Rattle.market.specs.declared.Measure.{Measure}
use Rattle.market.specs.declared.Measure.TheVariants.{Value, Buyers, Sellers, Traded, Surplus, Net}

-- ---- the sums of what is counted are the totals

only_sold : (side : Side) (x : ℤ) → by_side side x (pos 0) ≡ of_sells side x
only_sold Sell x = refl
only_sold Buy x = refl

only_bought : (side : Side) (x : ℤ) → by_side side (pos 0) x ≡ of_buys side x
only_bought Sell x = refl
only_bought Buy x = refl

sold_less_bought : (side : Side) (x : ℤ) → by_side side x (neg_ℤ x) ≡ of_sells side x -ℤ of_buys side x
sold_less_bought Sell x = simp linear (omega arith)
sold_less_bought Buy x = simp linear (omega arith)

value_at : (side : Side) (limit : ℤ) (volume : ℕ) →
    by_side side (gain (pos 0) limit volume) (gain limit (pos 0) volume)
    ≡ of_buys side (limit *ℤ pos volume) -ℤ of_sells side (limit *ℤ pos volume)
value_at Sell limit volume = simp ring (omega arith)
value_at Buy limit volume = simp ring (omega arith)

surplus_at : (side : Side) (limit price : ℤ) (volume : ℕ) →
    by_side side (gain price limit volume) (gain limit price volume) ≡ margin side limit price *ℤ pos volume
surplus_at Sell limit price volume = refl
surplus_at Buy limit price volume = refl

module _ (d : Day) (p : Prices) (c : Choice) where
  pub value_is : accepted d c (priced Value p) ≡ order_value d c
  unfolding measured
  value_is = accepted_cong d c _ _ (λ t. value_at t.side t.limit t.volume) ∙ sym (accepted_minus d c _ _)

  pub buyers_is : accepted d c (priced Buyers p) ≡ buyer_surplus d p c
  unfolding measured
  buyers_is = accepted_cong d c _ _ (λ t. only_bought t.side _)

  pub sellers_is : accepted d c (priced Sellers p) ≡ seller_surplus d p c
  unfolding measured
  sellers_is = accepted_cong d c _ _ (λ t. only_sold t.side _)

  pub traded_is : accepted d c (priced Traded p) ≡ traded_volume d c
  unfolding measured
  traded_is = accepted_cong d c _ _ (λ t. only_bought t.side _)

  pub net_is : (zone period : ℕ) → accepted d c (priced (Net zone period) p) ≡ net_position d c zone period
  unfolding measured
  net_is zone period = accepted_cong d c _ _ (λ t. sold_less_bought t.side (volume_at zone period t)) ∙ sym (accepted_minus d c _ _)

  pub accepted_is : (m : Measure) →
      accepted d c (priced m p) ≡ sum d.steps (step_measured d p c m) +ℤ sum d.blocks (λ k. block_measured d p m k (c.ratio k))
  unfolding accepted step_measured block_measured
  accepted_is m = refl

pub net_flow_is : (d : Day) (c : Choice) (zone period : ℕ) →
    sum d.lines (line_leaves d c zone period) ≡ leaving d c zone period -ℤ entering d c zone period
net_flow_is d c zone period = simp sums (simp linear (omega arith))

-- a block accepted whole
pub whole_volume : (quantity : ℕ) → block_volume most_ratio quantity ≡ quantity
unfolding block_volume
whole_volume quantity = omega arith

module _ (d : Day) (p : Prices) where
  -- the surplus of what a ratio accepts of a block, and of the whole block
  part_is : (k ratio : ℕ) → block_measured d p Surplus k ratio ≡ surplus_of d p k (λ h. pos (block_volume ratio (d.quantity k h)))
  unfolding measured block_measured surplus_of
  part_is k ratio =
      let b = d.block k in sum_cong _ _ _ (λ h _. surplus_at b.side b.limit (p b.zone h) (block_volume ratio (d.quantity k h)))

  pub whole_is : (k : ℕ) → block_measured d p Surplus k most_ratio ≡ whole_surplus d p k
  whole_is k = part_is k most_ratio ∙ simp whole_volume

  -- the surplus of what is left is that of the whole less that of what is accepted
  pub left_is : (c : Choice) (k : ℕ) → left_surplus d p c k ≡ whole_surplus d p k -ℤ block_measured d p Surplus k (c.ratio k)
  left_is c k = rw (part_is k (c.ratio k)) (given (with_left d p c k) (simp linear (omega arith)))

-- ---- how large: one trade

-- the difference of two prices, or of two flows
gap_size : (x y : ℤ) → nat_abs x ≤ 1000000 → nat_abs y ≤ 1000000 → nat_abs (x -ℤ y) ≤ 2000000
gap_size x y a b = omega (arith, abs-- x y)

pub net_flow_size : (from to zone : ℕ) (flow : ℤ) → nat_abs flow ≤ most_flow → nat_abs (at from flow zone -ℤ at to flow zone) ≤ 2000000
net_flow_size from to zone flow h =
    gap_size (at from flow zone) (at to flow zone) (le_trans (at_size from flow zone) h) (le_trans (at_size to flow zone) h)

-- a quantity times a ratio, and what the ratio accepts of it
pub thousandths_most : (ratio quantity : ℕ) → ratio ≤ most_ratio → quantity ≤ most_volume → quantity * ratio ≤ 1000000000
thousandths_most ratio quantity r q = mul-le-mul {n₂ = most_volume} {m₂ = most_ratio} q r

volume_most : (ratio quantity : ℕ) → ratio ≤ most_ratio → quantity ≤ most_volume → block_volume ratio quantity ≤ most_volume
unfolding block_volume
volume_most ratio quantity r q = omega (arith, thousandths_most ratio quantity r q)

module _ (t : Trade) (price : ℤ) (small : Small t price) where
  gain_size : (get ask : ℤ) → nat_abs get ≤ most_price → nat_abs ask ≤ most_price → nat_abs (gain get ask t.volume) ≤ 2000000000000
  gain_size get ask g a = abs-*-≤ (get -ℤ ask) (pos t.volume) 2000000 1000000 (gap_size get ask g a) small.volume_small

  volume_at_size : (zone period : ℕ) → nat_abs (volume_at zone period t) ≤ most_volume
  volume_at_size zone period =
      let volume = pos t.volume in
      le_trans (at_size t.zone (at t.period volume period) zone) (le_trans (at_size t.period volume period) small.volume_small)

  sold_size : (m : Measure) → nat_abs (sold m price t) ≤ 2000000000000
  sold_size Value = gain_size (pos 0) t.limit (omega arith) small.limit_small
  sold_size Buyers = omega arith
  sold_size Sellers = gain_size price t.limit small.price_small small.limit_small
  sold_size Traded = omega arith
  sold_size Surplus = gain_size price t.limit small.price_small small.limit_small
  sold_size (Net zone period) = omega (arith, volume_at_size zone period)

  bought_size : (m : Measure) → nat_abs (bought m price t) ≤ 2000000000000
  bought_size Value = gain_size t.limit (pos 0) small.limit_small (omega arith)
  bought_size Buyers = gain_size t.limit price small.limit_small small.price_small
  bought_size Sellers = omega arith
  bought_size Traded = omega (arith, small.volume_small)
  bought_size Surplus = gain_size t.limit price small.limit_small small.price_small
  bought_size (Net zone period) = omega (arith, abs_neg (volume_at zone period t), volume_at_size zone period)

pub measured_size : (m : Measure) (t : Trade) (price : ℤ) → Small t price → nat_abs (measured m price t) ≤ 2000000000000
unfolding measured
measured_size m t price small = by t.side
  where
    by : (side : Side) → nat_abs (by_side side (sold m price t) (bought m price t)) ≤ 2000000000000
    by Sell = sold_size t price small m
    by Buy = bought_size t price small m

-- ---- how large: the sums, and those of their first n terms

module _ (d : Day) (p : Prices) (c : Choice) (placed : Placed d) (ranged : Ranged d p c) where
  pub step_small : (i : ℕ) → i < d.steps → Small (step_trade (d.step i) (c.volume i)) (p (d.step i).zone (d.step i).period)
  step_small i l = record {
    limit_small = placed.step_limit i l;
    price_small = ranged.price _ _ (placed.step_zone i l) (placed.step_period i l);
    volume_small = ranged.volume i l;
  }

  pub block_small : (k h ratio : ℕ) → k < d.blocks → h < d.periods → ratio ≤ most_ratio →
      Small (block_trade (d.block k) h (block_volume ratio (d.quantity k h))) (p (d.block k).zone h)
  block_small k h ratio l n r = record {
    limit_small = placed.block_limit k l;
    price_small = ranged.price _ _ (placed.block_zone k l) n;
    volume_small = volume_most ratio (d.quantity k h) r (placed.block_quantity k h l n);
  }

  module _ (m : Measure) where
    pub step_size : (i : ℕ) → i < d.steps → nat_abs (step_measured d p c m i) ≤ 2000000000000
    unfolding step_measured
    step_size i l = measured_size m _ _ (step_small i l)

    pub steps_size : (n : ℕ) → n ≤ d.steps → nat_abs (sum n (step_measured d p c m)) ≤ 4000000000000000
    steps_size n l = sum_within n most_steps _ 2000000000000 (le_trans l placed.steps_most) (λ i j. step_size i (le_trans j l))

    pub block_part_size : (n k ratio : ℕ) → n ≤ d.periods → k < d.blocks → ratio ≤ most_ratio →
        nat_abs (sum n (λ h. priced m p (block_trade (d.block k) h (block_volume ratio (d.quantity k h))))) ≤ 50000000000000
    block_part_size n k ratio l i r =
        sum_within n most_periods _ 2000000000000 (le_trans l placed.periods_most)
        (λ h j. measured_size m _ _ (block_small k h ratio i (le_trans j l) r))

    pub block_size : (k ratio : ℕ) → k < d.blocks → ratio ≤ most_ratio → nat_abs (block_measured d p m k ratio) ≤ 50000000000000
    unfolding block_measured
    block_size k ratio i r = block_part_size d.periods k ratio (le_refl d.periods) i r

    pub blocks_size : (n : ℕ) → n ≤ d.blocks → nat_abs (sum n (λ k. block_measured d p m k (c.ratio k))) ≤ 5000000000000000
    blocks_size n l =
        sum_within n most_blocks _ 50000000000000 (le_trans l placed.blocks_most)
        (λ k j. block_size k (c.ratio k) (le_trans j l) (ranged.ratio k (le_trans j l)))

  pub whole_size : (k : ℕ) → k < d.blocks → nat_abs (whole_surplus d p k) ≤ 50000000000000
  whole_size k l = rw (whole_is d p k) at (block_size Surplus k most_ratio l (le_refl most_ratio))

  pub left_size : (k : ℕ) → k < d.blocks → nat_abs (left_surplus d p c k) ≤ 100000000000000
  left_size k l =
      let whole = whole_surplus d p k in
      let taken = block_measured d p Surplus k (c.ratio k) in
      rw (left_is d p c k) (omega (arith, abs-- whole taken, whole_size k l, block_size Surplus k (c.ratio k) l (ranged.ratio k l)))

  pub missed_size : (n : ℕ) → n ≤ d.blocks → nat_abs (sum n (missed d p c)) ≤ 10000000000000000
  missed_size n l =
      sum_within n most_blocks _ 100000000000000 (le_trans l placed.blocks_most)
      (λ k j. le_trans (above_zero_size (left_surplus d p c k)) (left_size k (le_trans j l)))

  pub rent_size : (l h : ℕ) → l < d.lines → h < d.periods → nat_abs (rent_at d p c l h) ≤ 2000000000000
  rent_size l h i j =
      let to = p (d.line l).to h in
      let from = p (d.line l).from h in
      abs-*-≤ (c.flow l h) (to -ℤ from) 1000000 2000000 (ranged.flow l h i j)
      (gap_size to from (ranged.price _ h (placed.line_to l i) j) (ranged.price _ h (placed.line_from l i) j))

  pub rent_part_size : (n l : ℕ) → n ≤ d.periods → l < d.lines → nat_abs (sum n (rent_at d p c l)) ≤ 50000000000000
  rent_part_size n l i j =
      sum_within n most_periods _ 2000000000000 (le_trans i placed.periods_most) (λ h k. rent_size l h j (le_trans k i))

  pub rents_size : (n : ℕ) → n ≤ d.lines → nat_abs (sum n (λ l. sum d.periods (rent_at d p c l))) ≤ 800000000000000
  rents_size n i =
      sum_within n most_lines _ 50000000000000 (le_trans i placed.lines_most)
      (λ l j. rent_part_size d.periods l (le_refl d.periods) (le_trans j i))

  pub flows_size : (n zone period : ℕ) → n ≤ d.lines → period < d.periods →
      nat_abs (sum n (line_leaves d c zone period)) ≤ 32000000
  flows_size n zone period i j =
      sum_within n most_lines _ 2000000 (le_trans i placed.lines_most)
      (λ l k. net_flow_size (d.line l).from (d.line l).to zone (c.flow l period) (ranged.flow l period (le_trans k i) j))
