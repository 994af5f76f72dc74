-- `steps::Slots::count_all` meets its contract. Assumes nothing.
use Rattle.std.proofs.Common.{le_antisymm, le_trans, arith}
use Rattle.steps.specs.Count.{none_counted, more_counted, still_ready}
use Rattle.steps.proofs.Slots.count_all.Goals as goal

pub loop-i-init : goal.loop-i-init
loop-i-init c = (omega arith, none_counted)

pub count_step-requires : goal.count_step-requires
count_step-requires c =
    let so_far = c.loop-i.invariant in
    let ready = c.requires in
    (still_ready so_far.1 ready (le_trans so_far.0 ready.framed.of_clearing.limits.steps_most), c.loop-i-test.true)

pub loop-i-preserved : goal.loop-i-preserved
loop-i-preserved c = (omega arith, more_counted c.loop-i.invariant.1 (c.count_step.ensures c.if-not-count_step.false))

pub returns : goal.returns
returns c _ = rw (le_antisymm c.loop-i.invariant.0 c.loop-i-test.false) at c.loop-i.invariant.1
