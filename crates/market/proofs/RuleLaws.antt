-- The tests of the rules are their sentences, and what a choice has that obeys them. Assumes nothing.
use Rattle.std.specs.Prelude.{ℕ, zero, suc, ◌*◌, ◌%◌, ◌<◌, ◌≤◌, ◌≡◌, refl, ◌↔◌, ◌⊎◌, Bool, true, false, ◌||◌, List, [], ◌∷◌, eqb, ℤ, pos, neg_ℤ, ◌-ℤ◌, ◌*ℤ◌}
use Rattle.std.proofs.Common.{arith, inl, inr, ne_eqb}
use Rattle.std.proofs.Math.Logic.Iff
use Rattle.std.proofs.Math.IntN.{*ℤ-zero}
use Rattle.whole.specs.Whole.{◌≼◌, ◌≺◌, sum}
use Rattle.whole.specs.Ring.{given, linear, ring, le_z_true, le_z_false, ≼_refl, ≼_antisym, ≼_or_<, *_nonneg, *_cancel, above_zero_nonneg}
use Rattle.whole.proofs.Sums.{sum_nonneg}
use Rattle.stages.specs.First.{both, apart, leb_is, eqb_is}
use Rattle.stages.specs.Stage.{Stage, Holds, Means, first_fault}
use Rattle.stages.proofs.StageLaws.{means}
use Rattle.stages.specs.Lists.{Each, In, each_in}
use Rattle.market.specs.Market.{Day, Choice, Prices, block_volume, surplus_of, whole_surplus, rent, shortfall}
use Rattle.limits.specs.Limits.{most_ratio}
use Rattle.market.specs.Other.{Allowed}
use Rattle.market.specs.Range.{Placed}
use Rattle.market.specs.Margins.{pays_is, block_surplus}
use Rattle.market.proofs.KindLaws.{in_thousandths}
use Rattle.market.specs.Rules.{InTheMoney, OutOfTheMoney, Pays, WholeAt, Lawful, equal, step_ok, line_ok, ratio_ok, whole_ok, block_ok, test, Obeys}
use Rattle.market.specs.Rules.{rows, columns, rule_stage, rule_stages}
use Rattle.market.specs.declared.Side.{Side}
use Rattle.market.specs.declared.Side.TheVariants.{Sell, Buy}
use Rattle.market.specs.declared.Rule.{Rule}
use Rattle.market.specs.declared.Rule.TheVariants.{Price, Capacity, Quantity, Ratio, Whole, Balance, Step, Line, Block}
use Rattle.stages.specs.Stage.{clean}

-- ---- a test's answer, as a fact

unless : (a b : Bool) → ((a || b) ≡ true) ↔ (a ≡ false → b ≡ true)
unless true b = (λ _ e. apart refl e, λ _. refl)
unless false b = (λ e _. e, λ h. h refl)

above_none : (n : ℕ) → (eqb n 0 ≡ false) ↔ (0 < n)
above_none zero = (λ e. apart refl e, λ l. absurd (omega (arith, l)))
above_none (suc n) = (λ _. omega arith, λ _. ne_eqb (suc n) 0 (λ e. omega (arith, e)))

-- a test fails just where what it tests does not hold
fails : {A : Type 0} (b : Bool) → (b ≡ true) ↔ A → (b ≡ false) ↔ ¬ A
fails true h = (λ e. apart refl e, λ n. absurd (n (h.0 refl)))
fails false h = (λ _ a. apart (h.1 a) refl, λ _. refl)

equal_is : (a b : ℤ) → (equal a b ≡ true) ↔ (a ≡ b)
equal_is a b = simp both (simp linear (omega arith))

-- simp takes the first that fits, so the more special stands first
ruleset tests = (equal_is, both, unless, above_none, leb_is, eqb_is, le_z_true, le_z_false)

-- ---- the tests are the sentences

step_is : (side : Side) (limit price : ℤ) (quantity volume : ℕ) → (step_ok side limit quantity price volume ≡ true)
    ↔ ((InTheMoney side limit price → volume ≡ quantity) × (OutOfTheMoney side limit price → volume ≡ 0))
step_is Sell limit price quantity volume = simp tests Iff.rfl
step_is Buy limit price quantity volume = simp tests Iff.rfl

module _ (d : Day) (p : Prices) (c : Choice) where
  pub test_is : (rule : Rule) (row col : ℕ) → (test d p c rule row col ≡ true) ↔ Obeys d p c rule row col
  unfolding test surplus_of
  test_is Price zone period = simp tests Iff.rfl
  test_is Capacity l period = simp tests (λ h. (h.1, h.0), λ h. (h.1, h.0))
  test_is Quantity i _ = leb_is _ _
  test_is Ratio k _ = simp tests Iff.rfl
  test_is Whole k period = eqb_is _ _
  test_is Balance zone period = equal_is _ _
  test_is Step i _ = let s = d.step i in step_is s.side s.limit (p s.zone s.period) s.quantity (c.volume i)
  test_is Line l period = simp tests Iff.rfl
  test_is Block k _ = simp (tests, pays_is) Iff.rfl

  pub breach : (rule : Rule) (row col : ℕ) → (test d p c rule row col ≡ false) ↔ ¬ (Obeys d p c rule row col)
  breach rule row col = fails (test d p c rule row col) (test_is rule row col)

  pub rule_holds : (rule : Rule) →
      Holds (rule_stage d p c rule) ↔ ((row col : ℕ) → row < rows d rule → col < columns d rule → Obeys d p c rule row col)
  rule_holds rule = (
    λ h row col l m. (test_is rule row col).0 (h row col l m),
    λ h row col l m. (test_is rule row col).1 (h row col l m),
  )

  -- every rule is in the list, and there are no other stages in it
  pub listed : (rule : Rule) → In (rule_stage d p c rule) (rule_stages d p c)
  listed Price = inl refl
  listed Capacity = inr (inl refl)
  listed Quantity = inr (inr (inl refl))
  listed Ratio = inr (inr (inr (inl refl)))
  listed Whole = inr (inr (inr (inr (inl refl))))
  listed Balance = inr (inr (inr (inr (inr (inl refl)))))
  listed Step = inr (inr (inr (inr (inr (inr (inl refl))))))
  listed Line = inr (inr (inr (inr (inr (inr (inr (inl refl)))))))
  listed Block = inr (inr (inr (inr (inr (inr (inr (inr (inl refl))))))))

  pub each_rule : (P : Stage → Type 0) → ((rule : Rule) → P (rule_stage d p c rule)) → Each P (rule_stages d p c)
  each_rule P h = (h Price, (h Capacity, (h Quantity, (h Ratio, (h Whole, (h Balance, (h Step, (h Line, (h Block, tt)))))))))

  -- all stages are clean where each rule holds
  clean_is : Means (rule_stages d p c) clean ↔ ((rule : Rule) → Holds (rule_stage d p c rule))
  clean_is = (λ m rule. each_in Holds (rule_stages d p c) m (listed rule), each_rule Holds)

  pub lawful_is : Means (rule_stages d p c) clean ↔ Lawful d p c
  lawful_is = (λ m. lawful (clean_is.0 m), λ h. clean_is.1 (holds h))
    where
      lawful : ((rule : Rule) → Holds (rule_stage d p c rule)) → Lawful d p c
      lawful h = record {
        price_rule = (rule_holds Price).0 (h Price);
        capacity_rule = (rule_holds Capacity).0 (h Capacity);
        quantity_rule = λ i l. (rule_holds Quantity).0 (h Quantity) i 0 l (omega arith);
        ratio_rule = λ k l. (rule_holds Ratio).0 (h Ratio) k 0 l (omega arith);
        whole_rule = (rule_holds Whole).0 (h Whole);
        balance_rule = (rule_holds Balance).0 (h Balance);
        step_rule = λ i l. (rule_holds Step).0 (h Step) i 0 l (omega arith);
        line_rule = (rule_holds Line).0 (h Line);
        block_rule = λ k l. (rule_holds Block).0 (h Block) k 0 l (omega arith);
      }

      holds : Lawful d p c → (rule : Rule) → Holds (rule_stage d p c rule)
      holds h Price = (rule_holds Price).1 h.price_rule
      holds h Capacity = (rule_holds Capacity).1 h.capacity_rule
      holds h Quantity = (rule_holds Quantity).1 (λ i _ l _. h.quantity_rule i l)
      holds h Ratio = (rule_holds Ratio).1 (λ k _ l _. h.ratio_rule k l)
      holds h Whole = (rule_holds Whole).1 h.whole_rule
      holds h Balance = (rule_holds Balance).1 h.balance_rule
      holds h Step = (rule_holds Step).1 (λ i _ l _. h.step_rule i l)
      holds h Line = (rule_holds Line).1 h.line_rule
      holds h Block = (rule_holds Block).1 (λ k _ l _. h.block_rule k l)

  -- the rules that speak of no price
  abbrev priceless : List Stage
  priceless =
      rule_stage d p c Capacity
      ∷ rule_stage d p c Quantity
      ∷ rule_stage d p c Ratio
      ∷ rule_stage d p c Whole
      ∷ rule_stage d p c Balance
      ∷ []

  -- a choice is allowed where their tests pass
  pub tests_allow : ((k : ℕ) → k < d.blocks → c.ratio k ≤ most_ratio) → first_fault priceless ≡ clean → Allowed d c
  tests_allow most e =
      let m = (means priceless clean).0 e in
      record {
        quantities = λ i l. (rule_holds Quantity).0 m.1.0 i 0 l (omega arith);
        capacities = (rule_holds Capacity).0 m.0;
        ratios = λ k l. (rule_holds Ratio).0 m.1.1.0 k 0 l (omega arith);
        ratios_most = most;
        whole = (rule_holds Whole).0 m.1.1.1.0;
        balance = (rule_holds Balance).0 m.1.1.1.1.0;
      }

-- ---- what follows

-- at the price any volume is allowed
pub at_the_price_any_volume : (side : Side) (limit : ℤ) (quantity volume : ℕ) → step_ok side limit quantity limit volume ≡ true
at_the_price_any_volume Sell limit quantity volume = rw ((le_z_true limit limit).1 (≼_refl limit))
at_the_price_any_volume Buy limit quantity volume = rw ((le_z_true limit limit).1 (≼_refl limit))

-- equal prices ask nothing
pub at_equal_prices_any_flow : (forward least price flow : ℤ) → line_ok forward least price price flow ≡ true
at_equal_prices_any_flow forward least price flow = rw ((le_z_true price price).1 (≼_refl price))

-- a rejected block is never refused, whatever its least ratio, its quantities and its surplus
pub rejected_never_refused : (least quantity : ℕ) (surplus : ℤ) →
    (ratio_ok least 0 ≡ true) × ((whole_ok 0 quantity ≡ true) × (block_ok 0 surplus ≡ true))
rejected_never_refused least quantity surplus = (refl, ((eqb_is (quantity * 0 % most_ratio) 0).1 (omega arith), refl))

-- a block that is accepted whole has whole volumes
pub whole_is_whole : (quantity : ℕ) → whole_ok most_ratio quantity ≡ true
whole_is_whole quantity = (eqb_is (quantity * most_ratio % most_ratio) 0).1 (omega arith)

-- A block is accepted at a ratio that makes its volumes whole. What is accepted of it pays just where the whole block does, so that it does
-- not matter which of the two the block rule tests.
module _ (d : Day) (p : Prices) (c : Choice) (k : ℕ) (accepted : 0 < c.ratio k) (whole : (h : ℕ) → h < d.periods → WholeAt d c k h) where
  gains_with_the_whole : (pos 0 ≼ block_surplus d p c k) ↔ (pos 0 ≼ whole_surplus d p k)
  gains_with_the_whole =
      let ratio = pos (c.ratio k) in
      let e = in_thousandths d p c k whole in (
        λ s. *_cancel ratio (pos 0) (whole_surplus d p k) (given accepted (simp linear (omega arith)))
            (rw (*ℤ-zero, ← e) (*_nonneg (pos most_ratio) (block_surplus d p c k) (simp linear (omega arith)) s)),
        λ s. *_cancel (pos most_ratio) (pos 0) (block_surplus d p c k) (simp linear (omega arith))
            (rw (*ℤ-zero, e) (*_nonneg ratio (whole_surplus d p k) (simp linear (omega arith)) s)),
      )

  pub part_pays : let b = d.block k in let volume : ℕ → ℕ = λ h. block_volume (c.ratio k) (d.quantity k h) in
      Pays b.side (b.limit *ℤ sum d.periods (λ h. pos (volume h))) (sum d.periods (λ h. pos (volume h) *ℤ p b.zone h))
      ↔ Pays b.side (b.limit *ℤ sum d.periods (λ h. pos (d.quantity k h))) (sum d.periods (λ h. pos (d.quantity k h) *ℤ p b.zone h))
  unfolding surplus_of
  part_pays =
      let b = d.block k in
      Iff.trans (Iff.symm (pays_is d.periods b.side b.limit (p b.zone) (λ h. block_volume (c.ratio k) (d.quantity k h))))
      (Iff.trans gains_with_the_whole (pays_is d.periods b.side b.limit (p b.zone) (d.quantity k)))

-- flow runs towards the dearer end, so it earns
earns : (flow forward back from to : ℤ) → pos 0 ≼ forward → pos 0 ≼ back → (from ≺ to → flow ≡ forward) → (to ≺ from → flow ≡ neg_ℤ back) →
    pos 0 ≼ flow *ℤ (to -ℤ from)
earns flow forward back from to f b up down = by (≼_or_< to from) (≼_or_< from to)
  where
    by : (to ≼ from) ⊎ (from ≺ to) → (from ≼ to) ⊎ (to ≺ from) → pos 0 ≼ flow *ℤ (to -ℤ from)
    by (inr l) _ = rw (up l) (*_nonneg forward (to -ℤ from) f (given l (simp linear (omega arith))))
    by (inl _) (inr l) = rw (down l) (given (*_nonneg back (from -ℤ to) b (given l (simp linear (omega arith)))) (simp ring (omega arith)))
    by (inl l) (inl m) = rw (≼_antisym l m) (simp ring (omega arith))

module _ (d : Day) (p : Prices) (c : Choice) where
  pub rent_nonneg : Placed d → Lawful d p c → pos 0 ≼ rent d p c
  unfolding rent
  rent_nonneg placed lawful =
      sum_nonneg _ _ (λ l n. sum_nonneg _ _ (λ h m. earns _ _ _ _ _ (placed.forward_least l h n m) (placed.back_least l h n m)
      (lawful.line_rule l h n m).0 (lawful.line_rule l h n m).1))

  pub shortfall_nonneg : pos 0 ≼ shortfall d p c
  unfolding shortfall
  shortfall_nonneg = sum_nonneg _ _ (λ k _. above_zero_nonneg _)
