-- The blocks before this row are sure and counted.
use Rattle.std.proofs.Common.{◌-◌, ◌≤◌}
use Rattle.blocks.specs.Sure.{CountedTo}
use Rattle.blocks.proofs.count_blocks.Given as goal

abbrev pub invariant-loop-row : goal.invariant-loop-row
invariant-loop-row l = (l.row ≤ l.framed.counts.blocks) × CountedTo l.framed.counts l.framed.day.now l.framed.clearing.now l.row l.initial.nets l.nets l.initial.sums l.sums

abbrev pub decreases-loop-row : goal.decreases-loop-row
decreases-loop-row l = l.framed.counts.blocks - l.row
