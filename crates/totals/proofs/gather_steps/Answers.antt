-- `totals::gather_steps` meets its contract. The loop's invariant: the table holds the sums over the steps passed. Assumes nothing.
use Rattle.std.proofs.Common.{arith}
use Rattle.totals.specs.Gather.{cells_most, step_next, no_step_yet, next_below, next_fits, next_tabled}
use Rattle.totals.proofs.gather_steps.Goals as goal

pub loop-row-init : goal.loop-row-init
loop-row-init c = (omega arith, no_step_yet c.args.book.reads c.requires)

pub add_trade-requires : goal.add_trade-requires
add_trade-requires c =
    let o = c.args.book.reads in
    let t = c.loop-row.invariant.1 in
    let next = step_next o c.loop-row-test.true in
    rw c.step_trade.ensures (record { nets_len = (t.long, next_below (cells_most o) next); sfits = next_fits (cells_most o) next t })

pub loop-row-preserved : goal.loop-row-preserved
loop-row-preserved c =
    let o = c.args.book.reads in
    let t = c.loop-row.invariant.1 in
    (omega arith, rw (c.add_trade.ensures, c.step_trade.ensures) (next_tabled (cells_most o) (step_next o c.loop-row-test.true) t))
