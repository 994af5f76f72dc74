-- `lines::prices_sure` meets its contract. Assumes nothing.
use Rattle.std.proofs.Common.{arith, ◌∙◌}
use Rattle.whole.proofs.Size.{same}
use Rattle.lines.specs.CountLaws.{more_below, all_below, sure_price}
use Rattle.lines.proofs.prices_sure.Goals as goal

pub loop-period-preserved : goal.loop-period-preserved
loop-period-preserved c =
    let floor_is = same c.floor.result c.floor.type_inv ∙ c.floor.ensures in
    let ceiling_is = same c.ceiling.result c.ceiling.type_inv ∙ c.ceiling.ensures in (
      omega arith,
      more_below c.loop-period.invariant.1
          (rw (ceiling_is, floor_is) at (c.period_sure.ensures c.if-not-period_sure.false)),
    )

pub returns : goal.returns
returns c = λ _ z h l m.
    sure_price (c.requires h m)
    (((all_below c.loop-period.invariant.1 c.loop-period-test.false).each h m).each z l)
