-- `lines::count_line` meets its contract. Assumes nothing.
use Rattle.lines.specs.Counted.{EndsSure}
use Rattle.lines.specs.CountLaws.{ends_sure, no_period, period_asks, period_counted, line_counted}
use Rattle.lines.proofs.count_line.Goals as goal
use Rattle.lines.proofs.count_line.Goals.{Else-not-ends-framed}

sure_ends : (c : Else-not-ends-framed) → EndsSure c.args.framed.counts c.args.part.now c.args.at
sure_ends c = ends_sure c.line_at-ends.ensures c.if-not-ends-framed.false

pub loop-period-init : goal.loop-period-init
loop-period-init c = no_period

pub count_flow-requires : goal.count_flow-requires
count_flow-requires c =
    period_asks (sure_ends (goal.at.count_flow-requires c).Else-not-ends-framed) c.loop-period.invariant c.requires c.loop-period-test.true
    c.line_at-ends.ensures

pub loop-period-preserved : goal.loop-period-preserved
loop-period-preserved c =
    period_counted (sure_ends (goal.at.loop-period-preserved c).Else-not-ends-framed) c.loop-period.invariant c.requires c.loop-period-test.true
    c.line_at-ends.ensures c.u32_at.ensures c.u32_at-in-loop-period.ensures (c.count_flow.ensures c.if-not-count_flow.false)

pub returns : goal.returns
returns c _ = line_counted (sure_ends (goal.at.returns c).Else-not-ends-framed) c.loop-period.invariant c.loop-period-test.false
