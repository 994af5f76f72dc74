-- `totals::sum_of` meets its contract. Assumes nothing.
use Rattle.std.proofs.Common.{arith}
use Rattle.totals.specs.Loops.{none_summed, more_fits, more_summed, all_summed}
use Rattle.totals.proofs.sum_of.Goals as goal

pub loop-i-init : goal.loop-i-init
loop-i-init g c = λ f gives. none_summed

pub add-all-requires : goal.add-all-requires
add-all-requires g c =
    let s = c.requires.parts_fit in
    more_fits (c.loop-i.invariant s.0 s.1.0) c.loop-i-test.true c.of.type_inv (s.1.0.each _ _ c.loop-i-test.true c.of.ensures)
    {most = 9223372036854775807} (λ k l. let h = s.1.1.size k l in omega arith) (omega arith)

pub loop-i-preserved : goal.loop-i-preserved
loop-i-preserved g c = λ f gives.
    more_summed (c.loop-i.invariant f gives) c.loop-i-test.true c.of.type_inv (gives.each _ _ c.loop-i-test.true c.of.ensures)
    c.add-all.type_inv c.add-all.ensures

pub returns : goal.returns
returns g c = λ f gives. all_summed (c.loop-i.invariant f gives) c.loop-i-test.false
