-- `blocks::miss` meets its contract: only what is above 0 is missed. Assumes nothing.
use Rattle.std.proofs.Common.{arith, w64}
use Rattle.std.proofs.lemmas.Int.{to_z-of_z}
use Rattle.whole.specs.Ring.{given, linear, above_zero_of_nonneg, above_zero_of_nonpos}
use Rattle.cells.specs.Gains.{nothing, SumsGained, no_gain, more_is}
use Rattle.blocks.proofs.miss.Goals as goal

pub returns-then-left-gt0 : goal.returns-then-left-gt0
returns-then-left-gt0 c =
    let a = c.args in
    let read = to_z-of_z w64 a.left c.ranges.left in
    let same : SumsGained nothing a.sums.now a.sums.now = no_gain in
    record {
      buyers = same.buyers;
      sellers = same.sellers;
      rent = same.rent;
      traded = same.traded;
      shortfall = rw (
        read,
        more_is a.sums.now.shortfall a.left c.requires.sums_within.shortfall c.requires.left_bound (omega arith),
        above_zero_of_nonneg a.left (given (rw read at c.if-left-gt0.true) (simp linear (omega arith))),
      );
    }

pub returns-else-left-gt0 : goal.returns-else-left-gt0
returns-else-left-gt0 c =
    let read = to_z-of_z w64 c.args.left c.ranges.left in
    rw (above_zero_of_nonpos c.args.left (given (rw read at c.if-left-gt0.false) (simp linear (omega arith)))) no_gain
