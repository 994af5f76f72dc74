-- The sums, and the bits, of the periods before this one.
use Rattle.std.proofs.Common.{◌-◌, ◌≤◌}
use Rattle.rows.specs.Rows.{block_quantity}
use Rattle.book.specs.Book.{prices_of}
use Rattle.blocks.specs.Block.{WalkedTo}
use Rattle.blocks.proofs.over_periods.Given as goal

abbrev pub invariant-loop-period : goal.invariant-loop-period
invariant-loop-period l = (l.period ≤ l.framed.counts.periods) × WalkedTo (block_quantity l.part l.at) (prices_of l.framed.counts l.framed.clearing.now l.zone) l.period l.all l.worth l.bits

abbrev pub decreases-loop-period : goal.decreases-loop-period
decreases-loop-period l = l.framed.counts.periods - l.period
