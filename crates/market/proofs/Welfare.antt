-- The welfare theorem, by linear programming duality. All rows of a choice together are one item, which in a balanced choice brings nothing
-- to any zone and period; so the rows' surpluses come to the order value, at any prices. In a lawful clearing each row's surplus is best,
-- but for a block's part of the shortfall; so the order value is best, but for the shortfall. Of the kinds of rows only what `KindLaws` says is
-- used: that each is priced and best. Assumes nothing.
use Rattle.std.specs.Prelude.{ℕ, ◌<◌, ◌≡◌, ℤ, pos, ◌+ℤ◌}
use Rattle.std.proofs.Common.{arith, sym, ◌∙◌}
use Rattle.std.proofs.Math.Path.{refl}
use Rattle.whole.specs.Whole.{◌≼◌, sum}
use Rattle.whole.specs.Ring.{given, linear}
use Rattle.whole.proofs.Sums.{sums, sum-+, sum_cong, sum_mono, sum_zero}
use Rattle.market.specs.Market.{Day, Choice, Prices, accepted, surplus_of, order_value, buyer_surplus, seller_surplus, rent, missed, shortfall}
use Rattle.market.specs.Rules.{Balanced, Lawful}
use Rattle.market.specs.Other.{Allowed, SameBlocks}
use Rattle.market.specs.Range.{Placed}
use Rattle.market.specs.Margins.{accepted_cong, accepted_plus, both_sides, block_surplus}
use Rattle.market.specs.Items.{Item, ◌⊕◌, all, surplus, surplus-⊕, surplus_all, surplus_is_value}
use Rattle.market.proofs.KindLaws.{trade_surplus, step_item, step_surplus, step_priced, step_best, line_item, line_rent, line_priced, line_best}
use Rattle.market.proofs.KindLaws.{block_item, block_priced, block_best}

-- ---- all rows together are one item

module _ (d : Day) (c : Choice) where
  whole : Item
  whole = all d.steps (step_item d c) ⊕ all d.blocks (block_item d c) ⊕ all d.lines (line_item d c)

  whole_value : whole.value ≡ order_value d c
  unfolding whole step_item block_item line_item all ◌⊕◌ accepted
  whole_value = simp (sums, sum_zero) (simp linear (omega arith))

  whole_brings : Balanced d c → (z h : ℕ) → z < d.zones → h < d.periods → whole.brings z h ≡ pos 0
  unfolding whole step_item block_item line_item all ◌⊕◌ accepted
  whole_brings b z h l n = given (b z h l n) (simp sums (simp linear (omega arith)))

-- ---- the surpluses of the rows

module _ (d : Day) (p : Prices) where
  surpluses : Choice → ℤ
  surpluses c = sum d.steps (step_surplus d p c) +ℤ sum d.blocks (block_surplus d p c) +ℤ sum d.lines (line_rent d p c)

  -- they are what the buyers, the sellers and the lines have
  traders_have : (c : Choice) → buyer_surplus d p c +ℤ seller_surplus d p c ≡ accepted d c (trade_surplus p)
  traders_have c =
      accepted_plus d c _ _
      ∙ accepted_cong d c _ (trade_surplus p) (λ t. both_sides t.side t.limit (p t.zone t.period) (pos t.volume))

  all_have : (c : Choice) → accepted d c (trade_surplus p) +ℤ rent d p c ≡ surpluses c
  unfolding surpluses rent accepted step_surplus surplus_of line_rent
  all_have c = refl

  module _ (placed : Placed d) where
    priced : (c : Choice) → surplus d p (whole d c) ≡ surpluses c
    unfolding surpluses whole
    priced c =
        simp (surplus-⊕, surplus_all) (rw (
          sum_cong d.steps _ (step_surplus d p c) (λ i l. step_priced d p c i (placed.step_zone i l) (placed.step_period i l)),
          sum_cong d.blocks _ (block_surplus d p c) (λ k l. block_priced d p c k (placed.block_zone k l)),
          sum_cong d.lines _ (line_rent d p c) (λ l n. line_priced d p c l (placed.line_from l n) (placed.line_to l n)),
        ))

    -- in a balanced choice they come to the order value
    come_to_value : (c : Choice) → Balanced d c → surpluses c ≡ order_value d c
    come_to_value c b = sym (priced c) ∙ surplus_is_value d p (whole d c) (whole_brings d c b) ∙ whole_value d c

    -- ==== buyer surplus, seller surplus and rent add up to the order value, at any prices

    pub adds_up : (c : Choice) → Balanced d c → buyer_surplus d p c +ℤ seller_surplus d p c +ℤ rent d p c ≡ order_value d c
    adds_up c b = rw (traders_have c) (all_have c ∙ come_to_value c b)

    module _ (c : Choice) (lawful : Lawful d p c) (other : Choice) (allowed : Allowed d other) where
      -- the rows are best but for `part k` at each block k, so the order value is best but for the sum of these
      best_but_for : (part : ℕ → ℤ) → ((k : ℕ) → k < d.blocks → block_surplus d p other k ≼ block_surplus d p c k +ℤ part k) →
          order_value d other ≼ order_value d c +ℤ sum d.blocks part
      unfolding surpluses
      best_but_for part blocks =
          rw (← come_to_value other allowed.balance, ← come_to_value c lawful.balance_rule)
          (given (sum_mono d.steps _ _ (λ i l. step_best d p c other i (lawful.step_rule i l) (allowed.quantities i l)))
          (given (sum_mono d.lines _ _ (λ l n. line_best d p c other l (λ h. lawful.line_rule l h n) (λ h. allowed.capacities l h n)))
          (given (simp sum-+ at (sum_mono d.blocks _ _ blocks)) (simp linear (omega arith)))))

      -- ==== no other choice has an order value greater by more than the shortfall; with the same blocks none has a greater one

      pub no_better : order_value d other ≼ order_value d c +ℤ shortfall d p c
      unfolding shortfall
      no_better =
          best_but_for (missed d p c)
          (λ k l. block_best d p c other k (lawful.block_rule k l) (allowed.ratios_most k l) (λ h. allowed.whole k h l))

      pub no_better_with_same_blocks : SameBlocks d c other → order_value d other ≼ order_value d c
      no_better_with_same_blocks same =
          given (best_but_for (λ k. pos 0) (λ k l. rw (same k l) (simp linear (omega arith))))
          (simp sum_zero (simp linear (omega arith)))
