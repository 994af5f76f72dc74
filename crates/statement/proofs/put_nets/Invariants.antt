use Rattle.std.proofs.Common.{◌≤◌, ◌≡◌, pos, get_or}
use Rattle.wire.specs.Bytes.{put}
use Rattle.statement.specs.Statement as bytes
use Rattle.statement.proofs.put_nets.Given as goal

abbrev pub invariant-loop-k : goal.invariant-loop-k
invariant-loop-k l = (l.k ≤ l.n) × (l.room ≡ put l.initial.room 52 (bytes.nets (λ i. get_or l.nets i (pos 0)) l.k))
