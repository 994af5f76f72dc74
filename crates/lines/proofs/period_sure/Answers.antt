-- `lines::period_sure` meets its contract: one zone more, whose price was tested. Assumes nothing.
use Rattle.std.proofs.Common.{sym, ◌∙◌, arith, w64}
use Rattle.std.proofs.lemmas.Int.{to_z-of_z}
use Rattle.whole.proofs.Size.{same}
use Rattle.lines.specs.CountLaws.{more_below, all_below}
use Rattle.lines.proofs.period_sure.Goals as goal

pub loop-zone-preserved : goal.loop-zone-preserved
loop-zone-preserved c = (
  omega arith,
  more_below c.loop-zone.invariant.1
      (rw (← c.price.ensures, ← same c.price.result c.price.type_inv) (sym c.between.ensures ∙ c.if-not-between.false)),
)

pub returns : goal.returns
returns c = λ _.
    simp (to_z-of_z w64 c.args.floor c.ranges.floor, to_z-of_z w64 c.args.ceiling c.ranges.ceiling)
    at (all_below c.loop-zone.invariant.1 c.loop-zone-test.false)
