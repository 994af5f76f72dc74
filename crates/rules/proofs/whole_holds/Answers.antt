-- `rules::whole_holds` meets its contract. Assumes nothing.
use Rattle.market.specs.Rules.{test}
use Rattle.book.specs.Ranges.{placed, ranged}
use Rattle.rules.proofs.whole_holds.Goals as goal

pub whole_ok-requires : goal.whole_ok-requires
whole_ok-requires c = (
  rw c.ratio.ensures ((ranged c.args.book.reads).ratio _ c.requires.0),
  rw c.quantity.ensures ((placed c.args.book.reads).block_quantity _ _ c.requires.0 c.requires.1),
)

pub returns : goal.returns
unfolding test
returns c = rw (c.whole_ok.ensures, c.quantity.ensures, c.ratio.ensures)
