-- `totals::gather_block` meets its contract. The loop's invariant: the table holds the sums over the rows before this block and over its
-- periods passed. Assumes nothing.
use Rattle.std.proofs.Common.{le_antisymm, arith, ◌≡◌, ◌∙◌}
use Rattle.book.specs.Book.{ratio_of}
use Rattle.book.specs.Ranges.{placed, ranged}
use Rattle.totals.specs.Sums.{block_trade}
use Rattle.totals.specs.Gather.{cells_most, period_next, no_period_yet, block_done, next_below, next_fits, next_tabled}
use Rattle.totals.proofs.gather_block.Goals as goal
use Rattle.totals.proofs.gather_block.Goals.{After-block_trade}

pub loop-period-init : goal.loop-period-init
loop-period-init c = (omega arith, no_period_yet c.args.book.reads c.args.row c.requires.tabled)

pub block_volume-volume-requires : goal.block_volume-volume-requires
block_volume-volume-requires c =
    let o = c.args.book.reads in (
      rw c.ratio-ratio.ensures ((ranged o).ratio _ c.requires.row_in),
      rw c.quantity.ensures ((placed o).block_quantity _ _ c.requires.row_in c.loop-period-test.true),
    )

trade : (c : After-block_trade) → let a = c.args in
    c.block_trade.result
    ≡ block_trade a.book.framed.counts a.book.framed.day.now a.book.framed.clearing.now a.row c.loop-period.period (ratio_of a.book.framed.clearing.now a.row)
trade c =
    c.block_trade.ensures
    ∙ rw (c.block_volume-volume.ensures, c.quantity.ensures, c.ratio-ratio.ensures, c.block-block.ensures)

pub add_trade-requires : goal.add_trade-requires
add_trade-requires c =
    let o = c.args.book.reads in
    let most = cells_most o in
    let t = c.loop-period.invariant.1 in
    let next = period_next o c.requires.row_in c.loop-period-test.true in
    rw (trade (goal.at.add_trade-requires c).After-block_trade) (record { nets_len = (t.long, next_below most next); sfits = next_fits most next t })

pub loop-period-preserved : goal.loop-period-preserved
loop-period-preserved c =
    let o = c.args.book.reads in
    let next = period_next o c.requires.row_in c.loop-period-test.true in
    (omega arith, rw (c.add_trade.ensures, trade (goal.at.loop-period-preserved c).After-block_trade) (next_tabled (cells_most o) next c.loop-period.invariant.1))

pub returns : goal.returns
returns c =
    block_done c.args.book.reads c.args.row (rw (le_antisymm c.loop-period.invariant.0 c.loop-period-test.false) at c.loop-period.invariant.1)
