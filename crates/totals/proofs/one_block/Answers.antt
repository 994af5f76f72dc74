-- `totals::one_block` meets its contract. Assumes nothing.
use Rattle.book.specs.Ranges.{ranged}
use Rattle.totals.proofs.one_block.Goals as goal

pub over_periods-requires : goal.over_periods-requires
over_periods-requires c =
    (c.requires, rw c.ratio.ensures ((ranged c.args.book.reads).ratio _ c.requires))
