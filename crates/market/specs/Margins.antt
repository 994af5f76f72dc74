-- What is accepted, term by term; what a unit's margin says: a step gains where it is in the money and loses where it is out of it, and a
-- block's surplus is not below zero just where the block pays; and that what is accepted of a block and what is left are the whole.
-- Assumes nothing.
use Rattle.std.specs.Prelude.{ℕ, ◌≡◌, refl, ◌↔◌, ℤ, pos, ◌+ℤ◌, ◌-ℤ◌, ◌*ℤ◌}
use Rattle.std.proofs.Common.{arith}
use Rattle.whole.specs.Whole.{◌≼◌, ◌≺◌, sum}
use Rattle.whole.specs.Ring.{linear}
use Rattle.whole.proofs.Sums.{sums}
use Rattle.market.specs.Market.{Day, Choice, Prices, block_volume, of_sells, of_buys, margin, accepted, surplus_of, whole_surplus, left_surplus}
use Rattle.market.specs.Rules.{InTheMoney, OutOfTheMoney, Pays}
use Rattle.market.specs.declared.Side.{Side}
use Rattle.market.specs.declared.Side.TheVariants.{Sell, Buy}
use Rattle.market.specs.declared.Trade.{Trade}

module _ (d : Day) (c : Choice) where
  pub accepted_cong : (f g : Trade → ℤ) → ((t : Trade) → f t ≡ g t) → accepted d c f ≡ accepted d c g
  unfolding accepted
  accepted_cong f g h = simp h

  pub accepted_plus : (f g : Trade → ℤ) → accepted d c f +ℤ accepted d c g ≡ accepted d c (λ t. f t +ℤ g t)
  unfolding accepted
  accepted_plus f g = simp sums (simp linear (omega arith))

  pub accepted_minus : (f g : Trade → ℤ) → accepted d c f -ℤ accepted d c g ≡ accepted d c (λ t. f t -ℤ g t)
  unfolding accepted
  accepted_minus f g = simp sums (simp linear (omega arith))

-- what is of sells and what is of buys, by the side
pub sells_sell : (x : ℤ) → of_sells Sell x ≡ x
sells_sell x = refl

pub sells_buy : (x : ℤ) → of_sells Buy x ≡ pos 0
sells_buy x = refl

pub buys_sell : (x : ℤ) → of_buys Sell x ≡ pos 0
buys_sell x = refl

pub buys_buy : (x : ℤ) → of_buys Buy x ≡ x
buys_buy x = refl

pub ruleset sides = (sells_sell, sells_buy, buys_sell, buys_buy)

-- a trade's surplus is a buyer's or a seller's
pub both_sides : (side : Side) (limit price volume : ℤ) →
    of_buys side ((limit -ℤ price) *ℤ volume) +ℤ of_sells side ((price -ℤ limit) *ℤ volume) ≡ margin side limit price *ℤ volume
both_sides Sell limit price volume = simp linear (omega arith)
both_sides Buy limit price volume = simp linear (omega arith)

pub gains_is : (side : Side) (limit price : ℤ) → (pos 0 ≺ margin side limit price) ↔ InTheMoney side limit price
gains_is Sell limit price = simp linear (omega arith)
gains_is Buy limit price = simp linear (omega arith)

pub loses_is : (side : Side) (limit price : ℤ) → (margin side limit price ≺ pos 0) ↔ OutOfTheMoney side limit price
loses_is Sell limit price = simp linear (omega arith)
loses_is Buy limit price = simp linear (omega arith)

pub pays_is : (n : ℕ) (side : Side) (limit : ℤ) (price : ℕ → ℤ) (quantity : ℕ → ℕ) →
    (pos 0 ≼ sum n (λ h. margin side limit (price h) *ℤ pos (quantity h)))
    ↔ Pays side (limit *ℤ sum n (λ h. pos (quantity h))) (sum n (λ h. pos (quantity h) *ℤ price h))
pays_is n Sell limit price quantity = simp sums (simp linear (omega arith))
pays_is n Buy limit price quantity = simp sums (simp linear (omega arith))

-- the surplus of what is accepted of a block
abbrev pub block_surplus : Day → Prices → Choice → ℕ → ℤ
block_surplus d p c k = surplus_of d p k (λ h. pos (block_volume (c.ratio k) (d.quantity k h)))

-- what is accepted and what is left are the whole
pub with_left : (d : Day) (p : Prices) (c : Choice) (k : ℕ) → block_surplus d p c k +ℤ left_surplus d p c k ≡ whole_surplus d p k
unfolding surplus_of
with_left d p c k = simp sums (simp linear (omega arith))
