-- The rows of a day file whose frame is without fault lie within their parts. Assumes nothing.
use Rattle.std.specs.Prelude.{ℕ, ◌+◌, ◌*◌, ◌<◌, ◌≤◌, ◌≡◌, List, length}
use Rattle.std.proofs.Common.{arith, subst}
use Rattle.limits.specs.Limits.{most_periods}
use Rattle.rows.specs.Rows.{row_start}
use Rattle.rows.specs.declared.Kind.TheVariants.{Periods, Lines, Steps, Blocks}
use Rattle.day.specs.declared.Counts.{Counts}
use Rattle.day.specs.Day.{lines_part, steps_part, blocks_part}
use Rattle.day.specs.Good.{InLimits}
use Rattle.day.specs.Frame.{framed_limits}
use Rattle.parts.specs.Of.{OfDay, periods_sized, lines_sized, steps_sized, blocks_sized}
use Rattle.book.specs.Of.{row_within}

module _ {day : List ℕ} {c : Counts} (o : OfDay day c) where
  -- the counts in hand are within their limits
  pub day_limits : InLimits c
  day_limits = subst InLimits o.counted (framed_limits o.framed)

  -- what `row_start` asks of a line and of a block
  pub line_starts : {i : ℕ} → i < c.lines → (c.periods ≤ most_periods) × (i < 65536)
  line_starts l = (day_limits.periods_most, omega (arith, day_limits.lines_most))

  pub block_starts : {i : ℕ} → i < c.blocks → (c.periods ≤ most_periods) × (i < 65536)
  block_starts l = (day_limits.periods_most, omega (arith, day_limits.blocks_most))

  -- a row of each section, where it starts, lies within the section's part
  pub period_within : {i : ℕ} → i < c.periods → 2 + 8 * i + 8 ≤ length day
  period_within = row_within Periods 0 (periods_sized o).1.1

  pub line_within : {part : List ℕ} → part ≡ lines_part day → {i : ℕ} → i < c.lines → {at : ℕ} → at ≡ row_start Lines c.periods i →
      at + (2 + 8 * c.periods) ≤ length part
  line_within q l e = rw e (row_within Lines c.periods (lines_sized o q).1.1 l)

  pub step_within : {part : List ℕ} → part ≡ steps_part day → {i : ℕ} → i < c.steps → 2 + 12 * i + 12 ≤ length part
  step_within q = row_within Steps c.periods (steps_sized o q).1.1

  pub block_within : {part : List ℕ} → part ≡ blocks_part day → {i : ℕ} → i < c.blocks → {at : ℕ} → at ≡ row_start Blocks c.periods i →
      at + (8 + 4 * c.periods) ≤ length part
  block_within q l e = rw e (row_within Blocks c.periods (blocks_sized o q).1.1 l)
