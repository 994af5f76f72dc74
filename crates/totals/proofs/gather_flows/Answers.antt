-- `totals::gather_flows` meets its contract. The loop's invariant: the table holds what the lines passed carry away. Assumes nothing.
use Rattle.std.proofs.Common.{le_antisymm, arith}
use Rattle.totals.specs.Gather.{no_line_yet, flows_gathered}
use Rattle.totals.proofs.gather_flows.Goals as goal

pub loop-line-init : goal.loop-line-init
loop-line-init c = (omega arith, no_line_yet c.args.book.reads c.requires)

pub returns : goal.returns
returns c =
    let o = c.args.book.reads in
    flows_gathered o (rw (le_antisymm c.loop-line.invariant.0 c.loop-line-test.false) at c.loop-line.invariant.1)
