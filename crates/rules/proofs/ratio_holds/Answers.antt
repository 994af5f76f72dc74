-- `rules::ratio_holds` meets its contract. Assumes nothing.
use Rattle.market.specs.Rules.{test}
use Rattle.rules.proofs.ratio_holds.Goals as goal

pub returns : goal.returns
unfolding test
returns c = rw (c.ratio_ok.ensures, c.ratio.ensures, c.block-block.ensures)
