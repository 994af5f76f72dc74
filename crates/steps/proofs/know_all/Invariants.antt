use Rattle.std.proofs.Common.{◌≤◌}
use Rattle.steps.specs.Known.{Known}
use Rattle.steps.proofs.know_all.Given as goal

abbrev pub invariant-loop-zone : goal.invariant-loop-zone
invariant-loop-zone l = (l.zone ≤ l.framed.counts.zones) × Known l.framed.counts l.framed.clearing.now l.heads l.prices l.places
