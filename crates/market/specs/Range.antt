-- A day, prices and a choice whose numbers lie within their limits and whose rows name zones and periods that are there: what two files
-- that read without fault tell. Assumes nothing.
use Rattle.std.specs.Prelude.{ℕ, ◌<◌, ◌≤◌, pos, nat_abs}
use Rattle.whole.specs.Whole.{◌≼◌}
use Rattle.limits.specs.Limits.{most_periods, most_zones, most_lines, most_steps, most_blocks, most_price, most_flow, most_volume, most_ratio}
use Rattle.market.specs.Market.{Day, Choice, Prices}

-- a day
pub record Placed (d : Day) : Type 0 where
  pub periods_most : d.periods ≤ most_periods
  pub zones_most : d.zones ≤ most_zones
  pub lines_most : d.lines ≤ most_lines
  pub steps_most : d.steps ≤ most_steps
  pub blocks_most : d.blocks ≤ most_blocks
  pub line_from : (l : ℕ) → l < d.lines → (d.line l).from < d.zones
  pub line_to : (l : ℕ) → l < d.lines → (d.line l).to < d.zones
  pub forward_least : (l h : ℕ) → l < d.lines → h < d.periods → pos 0 ≼ d.forward l h
  pub back_least : (l h : ℕ) → l < d.lines → h < d.periods → pos 0 ≼ d.back l h
  pub step_zone : (i : ℕ) → i < d.steps → (d.step i).zone < d.zones
  pub step_period : (i : ℕ) → i < d.steps → (d.step i).period < d.periods
  pub step_limit : (i : ℕ) → i < d.steps → nat_abs (d.step i).limit ≤ most_price
  pub block_zone : (k : ℕ) → k < d.blocks → (d.block k).zone < d.zones
  pub block_limit : (k : ℕ) → k < d.blocks → nat_abs (d.block k).limit ≤ most_price
  pub block_quantity : (k h : ℕ) → k < d.blocks → h < d.periods → d.quantity k h ≤ most_volume

-- prices and a choice for it
pub record Ranged (d : Day) (p : Prices) (c : Choice) : Type 0 where
  pub price : (z h : ℕ) → z < d.zones → h < d.periods → nat_abs (p z h) ≤ most_price
  pub flow : (l h : ℕ) → l < d.lines → h < d.periods → nat_abs (c.flow l h) ≤ most_flow
  pub volume : (i : ℕ) → i < d.steps → c.volume i ≤ most_volume
  pub ratio : (k : ℕ) → k < d.blocks → c.ratio k ≤ most_ratio
