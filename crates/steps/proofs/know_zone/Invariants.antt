use Rattle.std.proofs.Common.{◌≤◌}
use Rattle.steps.specs.Known.{Known}
use Rattle.steps.proofs.know_zone.Given as goal

abbrev pub invariant-loop-period : goal.invariant-loop-period
invariant-loop-period l = (l.period ≤ l.framed.counts.periods) × Known l.framed.counts l.framed.clearing.now l.heads l.prices l.places
