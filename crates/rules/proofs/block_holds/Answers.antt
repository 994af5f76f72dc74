-- `rules::block_holds` meets its contract. Assumes nothing.
use Rattle.whole.proofs.Size.{same}
use Rattle.market.specs.Rules.{test}
use Rattle.rules.proofs.block_holds.Goals as goal

pub returns : goal.returns
unfolding test
returns c =
    rw (
      c.block_ok.ensures,
      same c.whole_surplus.result c.whole_surplus.type_inv,
      c.whole_surplus.ensures,
      c.ratio.ensures,
    )
