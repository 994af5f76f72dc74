use Rattle.std.proofs.Common.{◌≤◌}
use Rattle.steps.specs.Sure.{StepsCounted}
use Rattle.steps.proofs.Slots.count_all.Given as goal

abbrev pub invariant-loop-i : goal.invariant-loop-i
invariant-loop-i l = (l.i ≤ l.self.framed.counts.steps) × StepsCounted l.self.framed.counts l.self.framed.day.now l.self.framed.clearing.now l.i l.initial.nets l.nets l.initial.sums l.sums
