use Rattle.lines.specs.Counted.{LinesSoFar}
use Rattle.lines.proofs.count_lines.Given as goal

abbrev pub invariant-loop-line : goal.invariant-loop-line
invariant-loop-line l = LinesSoFar l.framed.counts l.framed.day.now l.framed.clearing.now l.line l.initial.flows l.flows l.initial.sums l.sums
