use Rattle.std.proofs.Common.{◌≤◌}
use Rattle.book.specs.Book.{floor_of, ceiling_of, prices_of}
use Rattle.lines.specs.Counted.{Below, Between}
use Rattle.lines.proofs.prices_sure.Given as goal

abbrev pub invariant-loop-period : goal.invariant-loop-period
invariant-loop-period l = (l.period ≤ l.framed.counts.periods)
    × Below l.period (λ h. Below l.framed.counts.zones (λ z. Between (floor_of l.framed.day.now h) (ceiling_of l.framed.day.now h) (prices_of l.framed.counts l.framed.clearing.now z h)))
