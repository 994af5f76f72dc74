use Rattle.std.proofs.Common.{◌+◌, ◌*◌, ◌-◌, ◌≤◌, leb}
use Rattle.wire.specs.Bytes.{u32_at}
use Rattle.stages.specs.First.{Passed}
use Rattle.rows.proofs.first_above.Given as goal

abbrev pub invariant-loop-k : goal.invariant-loop-k
invariant-loop-k l = (l.k ≤ l.n) × Passed (λ j. leb (u32_at l.part (l.at + 4 * j)) l.most) l.k

abbrev pub decreases-loop-k : goal.decreases-loop-k
decreases-loop-k l = l.n - l.k
