use Rattle.std.proofs.Common.{◌≤◌}
use Rattle.book.specs.Book.{prices_of}
use Rattle.lines.specs.Counted.{Below, Between}
use Rattle.lines.proofs.period_sure.Given as goal

abbrev pub invariant-loop-zone : goal.invariant-loop-zone
invariant-loop-zone l = (l.zone ≤ l.framed.counts.zones) × Below l.zone (λ z. Between l.floor l.ceiling (prices_of l.framed.counts l.framed.clearing.now z l.period))
