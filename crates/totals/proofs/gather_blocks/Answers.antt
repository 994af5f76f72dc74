-- `totals::gather_blocks` meets its contract. The loop's invariant: the table holds the sums over the steps and over the blocks passed. Assumes nothing.
use Rattle.std.proofs.Common.{arith}
use Rattle.totals.specs.Gather.{no_block_yet}
use Rattle.totals.proofs.gather_blocks.Goals as goal

pub loop-row-init : goal.loop-row-init
loop-row-init c = (omega arith, no_block_yet c.args.book.reads c.requires)
