-- What steps, blocks and lines share. A row of a choice is an item: it adds a value to the order value, and it brings something to each zone
-- and period. Items add up, and at prices an item has a surplus, which adds up too; so all rows together are one item, and where that
-- brings nothing to any zone and period, its surplus is its value, whatever the prices. Nothing here knows a kind of row. Assumes nothing.
use Rattle.std.specs.Prelude.{ℕ, ◌<◌, ◌≡◌, ℤ, pos, ◌+ℤ◌, ◌*ℤ◌}
use Rattle.std.proofs.Common.{arith, ◌∙◌}
use Rattle.std.proofs.Math.Path.{ap}
use Rattle.std.proofs.Math.IntN.{+ℤ_idr, *ℤ-zero}
use Rattle.whole.specs.Whole.{sum, at}
use Rattle.whole.specs.Ring.{linear, *-+}
use Rattle.whole.proofs.Sums.{sum-+, sum_scale, sum_cong, sum_zero, sum_swap, sum_only, at_same, at_other}
use Rattle.market.specs.Market.{Day, Prices}

pub record Item : Type 0 where
  pub value : ℤ
  -- to a zone and a period
  pub brings : ℕ → ℕ → ℤ

infixl 6 ◌⊕◌
unfoldable pub ◌⊕◌ : Item → Item → Item
x ⊕ y = record { value = x.value +ℤ y.value; brings = λ z h. x.brings z h +ℤ y.brings z h }

-- x 0 ⊕ … ⊕ x (n − 1)
unfoldable pub all : ℕ → (ℕ → Item) → Item
all n x = record { value = sum n (λ i. (x i).value); brings = λ z h. sum n (λ i. (x i).brings z h) }

module _ (d : Day) where
  -- a sum over all zones and periods
  abbrev pub over : (ℕ → ℕ → ℤ) → ℤ
  over f = sum d.zones (λ z. sum d.periods (λ h. f z h))

  over_swap : (n : ℕ) (f : ℕ → ℕ → ℕ → ℤ) → over (λ z h. sum n (λ i. f i z h)) ≡ sum n (λ i. over (f i))
  over_swap n f =
      sum_cong d.zones _ _ (λ z _. sum_swap d.periods n (λ h i. f i z h)) ∙ sum_swap d.zones n (λ z i. sum d.periods (f i z))

module _ (d : Day) (p : Prices) where
  -- its value, and what it brings at the price of the zone and period
  unfoldable pub surplus : Item → ℤ
  surplus x = x.value +ℤ over d (λ z h. p z h *ℤ x.brings z h)

  pub surplus-⊕ : (x y : Item) → surplus (x ⊕ y) ≡ surplus x +ℤ surplus y
  unfolding surplus ◌⊕◌
  surplus-⊕ x y = simp (*-+, sum-+) (simp linear (omega arith))

  pub surplus_all : (n : ℕ) (x : ℕ → Item) → surplus (all n x) ≡ sum n (λ i. surplus (x i))
  unfolding surplus all
  surplus_all n x = simp (surplus, sum-+, ← sum_scale) (rw (over_swap d n (λ i z h. p z h *ℤ (x i).brings z h)))

  pub surplus_is_value : (x : Item) → ((z h : ℕ) → z < d.zones → h < d.periods → x.brings z h ≡ pos 0) → surplus x ≡ x.value
  unfolding surplus
  surplus_is_value x b =
      ap (λ (r : ℤ). x.value +ℤ r) (sum_zero d.zones _ (λ z l. sum_zero d.periods _ (λ h n. rw (b z h l n, *ℤ-zero)))) ∙ +ℤ_idr x.value

  -- what goes to one zone, at its prices
  pub paid_at : (k : ℕ) (q : ℕ → ℤ) → k < d.zones → over d (λ z h. p z h *ℤ at k (q h) z) ≡ sum d.periods (λ h. p k h *ℤ q h)
  paid_at k q l =
      sum_only d.zones k _ l (λ z _ e. sum_zero d.periods _ (λ h _. rw (at_other k (q h) z e, *ℤ-zero)))
      ∙ sum_cong d.periods _ _ (λ h _. rw (at_same k (q h)))
