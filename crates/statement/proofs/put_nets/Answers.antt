-- What is put in so far, and one net position more behind it.
use Rattle.std.proofs.Common.{pos, get_or, sym, ◌∙◌, arith, rules}
use Rattle.whole.proofs.Size.{same}
use Rattle.statement.specs.Laws.{nets_none, net_more}
use Rattle.statement.proofs.put_nets.Goals as goal

pub loop-k-init : goal.loop-k-init
loop-k-init c = (omega arith, sym (nets_none _ _))

pub loop-k-preserved : goal.loop-k-preserved
loop-k-preserved c = (
  omega arith,
  c.put_net.ensures
      ∙ rw (same (get_or c.args.nets.now c.loop-k.k (pos 0)) (search rules), c.loop-k.invariant.1)
      (net_more c.args.room.now (λ i. get_or c.args.nets.now i (pos 0)) c.loop-k.k (omega arith)),
)
