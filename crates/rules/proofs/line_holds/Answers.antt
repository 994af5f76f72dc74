-- `rules::line_holds` meets its contract. Assumes nothing.
use Rattle.book.specs.Ranges.{placed}
use Rattle.whole.proofs.Size.{same}
use Rattle.market.specs.Rules.{test}
use Rattle.rules.proofs.line_holds.Goals as goal

pub price-requires : goal.price-requires
price-requires c =
    rw c.line-ends.ensures (((placed c.args.book.reads).line_from _ c.requires.0, c.requires.1))

pub price-requires-2 : goal.price-requires-2
price-requires-2 c =
    rw c.line-ends.ensures
    (((placed c.args.book.reads).line_to _ c.requires.0, c.requires.1))

pub returns : goal.returns
unfolding test
returns c =
    rw (
      c.line_ok.ensures,
      same c.flow.result c.flow.type_inv,
      same c.price-2.result c.price-2.type_inv,
      same c.price.result c.price.type_inv,
      same c.least_flow.result c.least_flow.type_inv,
      same c.forward.result c.forward.type_inv,
      c.flow.ensures,
      c.price-2.ensures,
      c.price.ensures,
      c.least_flow.ensures,
      c.forward.ensures,
      c.line-ends.ensures,
    )
