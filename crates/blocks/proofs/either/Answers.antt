-- `blocks::either` meets its contract: no bit is lost. Assumes nothing.
use Rattle.blocks.specs.Gather.{either_above}
use Rattle.blocks.proofs.either.Goals as goal

pub returns : goal.returns
returns c = either_above c.args.a c.args.b
