-- `blocks::over_periods` meets its contract: each period adds its quantity, and it at its raised price. Assumes nothing.
use Rattle.std.proofs.Common.{arith, ◌∙◌}
use Rattle.whole.proofs.Size.{same}
use Rattle.blocks.specs.Gather.{none_walked, more_walked}
use Rattle.blocks.proofs.over_periods.Goals as goal

pub loop-period-init : goal.loop-period-init
loop-period-init c = (omega arith, none_walked)

pub loop-period-preserved : goal.loop-period-preserved
loop-period-preserved c =
    let quantity = c.u32_at-quantity in
    let price = same c.price.result c.price.type_inv ∙ c.price.ensures in (
      omega (arith, c.loop-period-test.true),
      more_walked {raised = c.raised-price.result} c.loop-period.invariant.1
          (rw (← quantity.ensures) (omega arith))
          (rw (← price) c.raised-price.ensures)
          (c.plus-all.ensures ∙ rw quantity.ensures)
          (c.plus_worth-worth.ensures ∙ rw quantity.ensures)
          (rw (← quantity.ensures) c.either-bits.ensures),
    )
