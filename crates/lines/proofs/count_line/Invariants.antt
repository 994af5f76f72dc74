use Rattle.lines.specs.Counted.{PeriodsCounted}
use Rattle.lines.proofs.count_line.Given as goal

abbrev pub invariant-loop-period : goal.invariant-loop-period
invariant-loop-period l = PeriodsCounted l.framed.counts l.framed.clearing.now l.part l.at l.line l.period l.initial.flows l.flows l.initial.sums l.sums
