-- `blocks::add_volumes` meets its contract: each period's volume goes to its cell and to the sum. Assumes nothing.
use Rattle.std.proofs.Common.{ℕ, ◌≤◌, ◌<◌, ◌≡◌, le_trans, arith, ◌∙◌, length}
use Rattle.cells.specs.Cells.{cell_below}
use Rattle.limits.specs.Limits.{most_volume}
use Rattle.market.specs.Market.{block_volume}
use Rattle.rows.specs.Rows.{block_quantity}
use Rattle.blocks.specs.Gather.{volume_most, none_brought, more_brought, volumes_size, held_size}
use Rattle.blocks.proofs.add_volumes.Goals as goal
use Rattle.blocks.proofs.add_volumes.Goals.{After-volume_of-volume}

pub loop-period-init : goal.loop-period-init
loop-period-init c = (omega arith, none_brought)

module _ (c : After-volume_of-volume) where
  -- the volume of the period
  volume_is : c.volume_of-volume.result ≡ block_volume c.args.ratio (block_quantity c.args.part.now c.args.at c.loop-period.period)
  volume_is = c.volume_of-volume.ensures ∙ rw c.u32_at.ensures

  -- and those before it
  small : (h : ℕ) → h < c.args.counts.periods → block_volume c.args.ratio (block_quantity c.args.part.now c.args.at h) ≤ most_volume
  small h l = volume_most c.requires.ready.ratio_is (c.requires.ready.quantities h l)

pub add_volume-requires : goal.add_volume-requires
add_volume-requires c =
    let long : length c.args.nets.now ≡ 200 = omega arith in
    let v = (goal.at.add_volume-requires c).After-volume_of-volume in
    let few = le_trans c.loop-period.invariant.0 c.requires.ready.periods_most in
    record {
      volume_le_most_volume =
          (rw (volume_is v) (small v _ c.loop-period-test.true), rw (c.cell.ensures, c.loop-period.invariant.1.nets.long, long) (cell_below c.requires.ready.cells c.requires.ready.zone_is c.loop-period-test.true));
      pos_bound =
          rw c.cell.ensures (held_size c.loop-period.invariant.1 few (λ h k. small v h (le_trans k c.loop-period.invariant.0)) c.requires.ready.zone_is c.loop-period-test.true c.requires.nets_within);
    }

pub plus-volumes-requires : goal.plus-volumes-requires
plus-volumes-requires c =
    let v = (goal.at.plus-volumes-requires c).After-volume_of-volume in
    omega (arith, volumes_size c.loop-period.invariant.1 (le_trans c.loop-period.invariant.0 c.requires.ready.periods_most) (λ h k. small v h (le_trans k c.loop-period.invariant.0)))

pub loop-period-preserved : goal.loop-period-preserved
loop-period-preserved c =
    let long : length c.args.nets.now ≡ 200 = omega arith in
    let v = (goal.at.loop-period-preserved c).After-volume_of-volume in
    let taken = c.loop-period-test.true in (
      omega (arith, taken),
      more_brought c.loop-period.invariant.1 (c.plus-volumes.ensures ∙ rw (volume_is v)) taken
          (rw (c.loop-period.invariant.1.nets.long, long) (cell_below c.requires.ready.cells c.requires.ready.zone_is taken))
          (c.add_volume.ensures ∙ rw (c.cell.ensures, volume_is v)),
    )
