-- `blocks::count_blocks` meets its contract: it counts block by block. Assumes nothing.
use Rattle.std.proofs.Common.{le_antisymm, le_trans, arith}
use Rattle.blocks.specs.Counted.{none_counted, more_counted, nets_within, sums_within}
use Rattle.blocks.proofs.count_blocks.Goals as goal

pub loop-row-init : goal.loop-row-init
loop-row-init c = (omega arith, none_counted)

pub count_block-requires : goal.count_block-requires
count_block-requires c =
    let limits = c.args.framed.framed.of_clearing.limits in
    let many = le_trans c.loop-row.invariant.0 limits.blocks_most in
    let t = c.loop-row.invariant.1 in
    record {
      prices = (c.requires.prices, c.loop-row-test.true);
      nets_within = nets_within t many c.requires.prices limits.periods_most c.requires.within.0;
      sums_within = sums_within t many c.requires.prices limits.periods_most c.requires.within.1;
    }

pub loop-row-preserved : goal.loop-row-preserved
loop-row-preserved c =
    (omega (arith, c.loop-row-test.true), more_counted c.loop-row.invariant.1 (c.count_block.ensures c.if-not-count_block.false))

pub returns : goal.returns
returns c _ = rw (le_antisymm c.loop-row.invariant.0 c.loop-row-test.false) at c.loop-row.invariant.1
