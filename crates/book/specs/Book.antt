-- The market's day that a day file says, and the prices and the choice that a clearing file says, row by row. `c` are the day's counts.
-- Assumes nothing.
use Rattle.std.specs.Prelude.{ℕ, ◌+◌, ◌*◌, Bool, true, false, cond, List, eqb, ℤ, pos}
use Rattle.wire.specs.Bytes.{u16_at, u32_at, i32_at}
use Rattle.limits.specs.Limits.{most_ratio}
use Rattle.rows.specs.Rows as rows
use Rattle.rows.specs.Rows.{row_start}
use Rattle.rows.specs.declared.Kind.TheVariants.{Periods, Lines, Steps, Blocks, Prices, Flows, Volumes, Ratios}
use Rattle.market.specs.Market.{Day, Choice}
use Rattle.market.specs.declared.Side.{Side}
use Rattle.market.specs.declared.Side.TheVariants.{Sell, Buy}
use Rattle.market.specs.declared.Step.{Step}
use Rattle.market.specs.declared.Block.{Block}
use Rattle.market.specs.declared.Line.{Line}
use Rattle.day.specs.declared.Counts.{Counts}
use Rattle.day.specs.Day.{lines_part, steps_part, blocks_part}
use Rattle.clearing.specs.Clearing.{flows_part, volumes_part, ratios_part}

-- ---- rows

-- 0 sell, 1 buy
abbrev pub side_by : Bool → Side
side_by true = Sell
side_by false = Buy

abbrev pub side_of : ℕ → Side
side_of n = side_by (eqb n 0)

abbrev pub step_at : List ℕ → ℕ → Step
step_at part at = record {
  zone = rows.step_zone part at;
  period = rows.step_period part at;
  side = side_of (rows.step_side part at);
  limit = rows.step_price part at;
  quantity = rows.step_quantity part at;
}

-- a least ratio of 0 stands for 1,000: all or nothing
abbrev pub least_of : ℕ → ℕ
least_of n = cond (eqb n 0) most_ratio n

abbrev pub block_at : List ℕ → ℕ → Block
block_at part at = record {
  zone = rows.block_zone part at;
  side = side_of (rows.block_side part at);
  limit = rows.block_price part at;
  least = least_of (rows.block_least part at);
}

abbrev pub line_at : List ℕ → ℕ → Line
line_at part at = record { from = rows.from part at; to = rows.to part at }

-- ---- the day file

unfoldable pub floor_of : List ℕ → ℕ → ℤ
floor_of day period = rows.floor day (row_start Periods 0 period)

unfoldable pub ceiling_of : List ℕ → ℕ → ℤ
ceiling_of day period = rows.ceiling day (row_start Periods 0 period)

unfoldable pub step_of : List ℕ → ℕ → Step
step_of day i = step_at (steps_part day) (row_start Steps 0 i)

module _ (c : Counts) (day : List ℕ) where
  unfoldable pub line_of : ℕ → Line
  line_of l = line_at (lines_part day) (row_start Lines c.periods l)

  unfoldable pub forward_of : ℕ → ℕ → ℤ
  forward_of l period = pos (rows.forward (lines_part day) (row_start Lines c.periods l) period)

  unfoldable pub back_of : ℕ → ℕ → ℤ
  back_of l period = pos (rows.back (lines_part day) (row_start Lines c.periods l) period)

  unfoldable pub block_of : ℕ → Block
  block_of k = block_at (blocks_part day) (row_start Blocks c.periods k)

  unfoldable pub quantity_of : ℕ → ℕ → ℕ
  quantity_of k period = rows.block_quantity (blocks_part day) (row_start Blocks c.periods k) period

  abbrev pub day_of : Day
  day_of = record {
    periods = c.periods;
    zones = c.zones;
    lines = c.lines;
    steps = c.steps;
    blocks = c.blocks;
    floor = floor_of day;
    ceiling = ceiling_of day;
    line = line_of;
    forward = forward_of;
    back = back_of;
    step = step_of day;
    block = block_of;
    quantity = quantity_of;
  }

-- ---- the clearing file

unfoldable pub volume_of : List ℕ → ℕ → ℕ
volume_of clearing i = u32_at (volumes_part clearing) (row_start Volumes 0 i)

unfoldable pub ratio_of : List ℕ → ℕ → ℕ
ratio_of clearing k = u16_at (ratios_part clearing) (row_start Ratios 0 k)

module _ (c : Counts) (clearing : List ℕ) where
  -- all periods of zone 0 first, and all periods of line 0 first
  unfoldable pub prices_of : ℕ → ℕ → ℤ
  prices_of zone period = i32_at clearing (row_start Prices 0 (zone * c.periods + period))

  unfoldable pub flow_of : ℕ → ℕ → ℤ
  flow_of l period = i32_at (flows_part clearing) (row_start Flows 0 (l * c.periods + period))

  abbrev pub choice_of : Choice
  choice_of = record { volume = volume_of clearing; ratio = ratio_of clearing; flow = flow_of }
