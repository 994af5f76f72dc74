-- `rules::capacity_holds` meets its contract. Assumes nothing.
use Rattle.whole.proofs.Size.{same}
use Rattle.market.specs.Rules.{test}
use Rattle.rules.proofs.capacity_holds.Goals as goal

pub returns : goal.returns
unfolding test
returns c =
    rw (
      c.between.ensures,
      same c.forward.result c.forward.type_inv,
      c.forward.ensures,
      same c.least_flow.result c.least_flow.type_inv,
      c.least_flow.ensures,
      same c.flow.result c.flow.type_inv,
      c.flow.ensures,
    )
