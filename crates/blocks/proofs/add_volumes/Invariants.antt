-- What the volumes of the periods before this one brought.
use Rattle.std.proofs.Common.{◌-◌, ◌≤◌}
use Rattle.market.specs.Market.{block_volume}
use Rattle.rows.specs.Rows.{block_quantity}
use Rattle.blocks.specs.Block.{BroughtTo}
use Rattle.blocks.proofs.add_volumes.Given as goal

abbrev pub invariant-loop-period : goal.invariant-loop-period
invariant-loop-period l = (l.period ≤ l.counts.periods)
    × BroughtTo l.counts.zones l.counts.periods l.zone l.side (λ h. block_volume l.ratio (block_quantity l.part l.at h)) l.period l.volumes l.initial.nets l.nets

abbrev pub decreases-loop-period : goal.decreases-loop-period
decreases-loop-period l = l.counts.periods - l.period
