-- `totals::gather_nets` meets its contract. Assumes nothing.
use Rattle.totals.specs.Gather.{nets_gathered}
use Rattle.totals.proofs.gather_nets.Goals as goal

pub returns : goal.returns
returns c =
    nets_gathered c.args.book.reads c.gather_blocks.ensures
