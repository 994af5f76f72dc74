use Rattle.std.proofs.Common.{ℕ, ℤ}
use Rattle.totals.specs.Loops.{Gives, Summed}
use Rattle.totals.proofs.sum_of.Given as goal

abbrev pub invariant-loop-i : goal.invariant-loop-i
invariant-loop-i g l = (f : ℕ → ℤ) → Gives l.n (goal.F-post g l.of) f → Summed f l.n l.i l.all
