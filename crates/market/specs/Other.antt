-- Another choice for the same day: any accepted volume for each step, any ratio for each block, any flow for each line and period. It has
-- no prices and comes from no file. Assumes nothing.
use Rattle.std.specs.Prelude.{ℕ, ◌<◌, ◌≤◌, ◌≡◌}
use Rattle.limits.specs.Limits.{most_ratio}
use Rattle.market.specs.Market.{Day, Choice, Prices}
use Rattle.market.specs.Rules.{KeepsQuantities, KeepsCapacities, KeepsLeastRatios, WholeVolumes, Balanced, Lawful}
use Rattle.market.specs.Range.{Ranged}

-- It keeps the order quantities and the line capacities, takes each block at a ratio that is allowed and makes its volumes whole, and
-- balances every zone in every period. Rules 11, 15, 16 and 17, which speak of prices, are not asked of it.
pub record Allowed (d : Day) (c : Choice) : Type 0 where
  pub quantities : KeepsQuantities d c
  pub capacities : KeepsCapacities d c
  -- a ratio is 0, or from the block's least ratio to 1,000
  pub ratios : KeepsLeastRatios d c
  pub ratios_most : (k : ℕ) → k < d.blocks → c.ratio k ≤ most_ratio
  pub whole : WholeVolumes d c
  pub balance : Balanced d c

-- it takes the same blocks: each at the same ratio
abbrev pub SameBlocks : Day → Choice → Choice → Type 0
SameBlocks d c other = (k : ℕ) → k < d.blocks → other.ratio k ≡ c.ratio k

-- a clearing that obeys the rules makes such a choice
pub lawful_allowed : (d : Day) (p : Prices) (c : Choice) → Ranged d p c → Lawful d p c → Allowed d c
lawful_allowed d p c ranged lawful = record {
  quantities = lawful.quantity_rule;
  capacities = lawful.capacity_rule;
  ratios = lawful.ratio_rule;
  ratios_most = ranged.ratio;
  whole = lawful.whole_rule;
  balance = lawful.balance_rule;
}
