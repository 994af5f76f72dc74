-- `blocks::count_block` meets its contract: what passed its tests is sure, and what it gave is counted. Assumes nothing.
use Rattle.std.proofs.Common.{rules, ◌+◌, ◌*◌, ◌≤◌, ◌<◌, ℕ, le_trans, arith, ◌≡◌, sym, ◌∙◌, nat_abs, length, w64, to_z, of_z}
use Rattle.whole.proofs.Size.{abs_le, same}
use Rattle.cells.specs.Gains.{within_more}
use Rattle.limits.specs.Limits.{most_price}
use Rattle.day.specs.Good.{prices_most}
use Rattle.book.specs.DayRows.{block_within}
use Rattle.blocks.specs.Block.{HeadRow, surplus_by}
use Rattle.blocks.specs.Gather.{walked_small}
use Rattle.blocks.specs.Counted.{RowRead, Tested, tested, surplus_small, rejected_read, accepted_read}
use Rattle.blocks.proofs.count_block.Goals as goal
use Rattle.blocks.proofs.count_block.Goals.{After-row_start-at, Else-not-head_ok, After-ratio-ratio, Else-whole-eq0, After-surplus_of-surplus}

above_none : (n : ℕ) → ¬ (n ≡ 0) → 0 < n
above_none n e = omega arith

-- ---- the row

within : (c : After-row_start-at) → c.row_start-at.result + (8 + 4 * c.args.framed.counts.periods) ≤ length c.blocks_part-part.result.now
within c = block_within c.args.framed.framed.of_day c.blocks_part-part.ensures c.requires.prices.1 c.row_start-at.ensures.0

pub head_ok-requires : goal.head_ok-requires
head_ok-requires c = omega (arith, within (goal.at.head_ok-requires c).After-row_start-at)

head : (c : Else-not-head_ok) → HeadRow c.args.framed.counts.zones c.blocks_part-part.result.now c.row_start-at.result
head c = c.head_ok.ensures c.if-not-head_ok.false

pub block_at-block-requires : goal.block_at-block-requires
block_at-block-requires c = omega (arith, within (goal.at.block_at-block-requires c).After-row_start-at)

pub over_periods-whole-requires-clause-periods_in_bounds : goal.over_periods-whole-requires-clause-periods_in_bounds
over_periods-whole-requires-clause-periods_in_bounds c = within (goal.at.over_periods-whole-requires-clause-periods_in_bounds c).After-row_start-at

-- ---- what the tests say

-- what was read of the row
read : (c : After-ratio-ratio) → RowRead c.args.framed.counts c.args.framed.day.now c.args.framed.clearing.now c.args.row
    c.blocks_part-part.result.now c.row_start-at.result c.block_at-block.result c.ratio-ratio.result
read c = record {
  part_is = c.blocks_part-part.ensures;
  at_is = c.row_start-at.ensures.0;
  block_is = c.block_at-block.ensures;
  ratio_read = c.ratio-ratio.ensures;
}

-- after all tests
passed : (c : Else-whole-eq0) → let walk = c.over_periods-whole.result in
    Tested c.args.framed.counts c.args.framed.day.now c.args.framed.clearing.now c.args.row walk.all walk.worth walk.bits
passed c =
    tested c.args.framed.counts _ _ _ (read (goal.at.Else-whole-eq0 c).After-ratio-ratio)
    (head (goal.at.Else-whole-eq0 c).Else-not-head_ok)
    c.if-ratio-gt-WHOLE.false
    (sym c.ratio_ok.ensures ∙ c.if-not-ratio_ok.false)
    c.over_periods-whole.ensures
    c.if-whole-gt-VOLUME_MOST.false
    (above_none c.over_periods-whole.result.all c.if-whole-eq0.false)

pub surplus_of-surplus-requires : goal.surplus_of-surplus-requires
surplus_of-surplus-requires c =
    let price = (head (goal.at.surplus_of-surplus-requires c).Else-not-head_ok).price_is in (
      rw (same c.block_at-block.result.limit (search rules), c.block_at-block.ensures) ((abs_le _ most_price).1 (price.low, price.high)),
      walked_small c.over_periods-whole.ensures c.args.framed.framed.of_clearing.limits.periods_most,
    )

-- the whole block's surplus
surplus_is : (c : After-surplus_of-surplus) → let b = c.block_at-block.result in
    to_z w64 (of_z w64 c.surplus_of-surplus.result) ≡ surplus_by b.side b.limit c.over_periods-whole.result.all c.over_periods-whole.result.worth
surplus_is c =
    same c.surplus_of-surplus.result c.surplus_of-surplus.type_inv ∙ c.surplus_of-surplus.ensures
    ∙ rw (same c.block_at-block.result.limit (search rules))

small : (c : After-surplus_of-surplus) → nat_abs (to_z w64 (of_z w64 c.surplus_of-surplus.result)) ≤ 50000000000000
small c =
    rw (surplus_is c)
    (surplus_small c.args.framed.counts c.args.framed.day.now c.args.framed.clearing.now c.args.row (read (goal.at.After-surplus_of-surplus c).After-ratio-ratio)
    (passed (goal.at.After-surplus_of-surplus c).Else-whole-eq0) c.requires.prices.0 c.args.framed.framed.of_clearing.limits.periods_most)

pub miss-requires-clause-left_bound : goal.miss-requires-clause-left_bound
miss-requires-clause-left_bound c = omega (arith, small (goal.at.miss-requires-clause-left_bound c).After-surplus_of-surplus)

pub miss-requires-clause-sums_within : goal.miss-requires-clause-sums_within
miss-requires-clause-sums_within c = within_more c.requires.sums_within (omega arith)

pub returns-then-ratio-eq0 : goal.returns-then-ratio-eq0
returns-then-ratio-eq0 c _ =
    rejected_read c.args.framed.counts c.args.framed.day.now c.args.framed.clearing.now c.args.row (read (goal.at.returns-then-ratio-eq0 c).After-ratio-ratio)
    (passed (goal.at.returns-then-ratio-eq0 c).Else-whole-eq0)
    c.if-ratio-eq0.true (rw (← surplus_is (goal.at.returns-then-ratio-eq0 c).After-surplus_of-surplus) c.miss.ensures)

pub accept-requires-clause-ready : goal.accept-requires-clause-ready
accept-requires-clause-ready c =
    let limits = c.args.framed.framed.of_clearing.limits in
    record {
      row_within = within (goal.at.accept-requires-clause-ready c).After-row_start-at;
      quantities = λ h l. le_trans (c.over_periods-whole.ensures.bits_above h l) c.if-whole-gt-VOLUME_MOST.false;
      ratio_is = c.if-ratio-gt-WHOLE.false;
      zone_is = rw c.block_at-block.ensures (head (goal.at.accept-requires-clause-ready c).Else-not-head_ok).zone_is;
      cells = prices_most limits;
      periods_most = limits.periods_most;
    }

pub accept-requires-clause-all_value : goal.accept-requires-clause-all_value
accept-requires-clause-all_value c = (c.over_periods-whole.ensures.all_is, small (goal.at.accept-requires-clause-all_value c).After-surplus_of-surplus)

pub returns : goal.returns
returns c told =
    accepted_read c.args.framed.counts c.args.framed.day.now c.args.framed.clearing.now c.args.row (read (goal.at.returns c).After-ratio-ratio)
    (passed (goal.at.returns c).Else-whole-eq0)
    (rw (← surplus_is (goal.at.returns c).After-surplus_of-surplus) (c.accept.ensures told))
