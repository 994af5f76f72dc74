-- `rules::quantity_holds` meets its contract. Assumes nothing.
use Rattle.market.specs.Rules.{test}
use Rattle.rules.proofs.quantity_holds.Goals as goal

pub returns : goal.returns
unfolding test
returns c = rw (c.volume.ensures, c.step-step.ensures)
