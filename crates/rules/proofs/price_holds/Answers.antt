-- `rules::price_holds` meets its contract. Assumes nothing.
use Rattle.whole.proofs.Size.{same}
use Rattle.market.specs.Rules.{test}
use Rattle.rules.proofs.price_holds.Goals as goal

pub returns : goal.returns
unfolding test
returns c =
    rw (
      c.between.ensures,
      same c.ceiling.result c.ceiling.type_inv,
      c.ceiling.ensures,
      same c.floor.result c.floor.type_inv,
      c.floor.ensures,
      same c.price.result c.price.type_inv,
      c.price.ensures,
    )
