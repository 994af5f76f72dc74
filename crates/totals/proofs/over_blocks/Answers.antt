-- `totals::over_blocks` meets its contract. Assumes nothing.
use Rattle.std.proofs.Common.{rules, arith, ◌∙◌}
use Rattle.whole.proofs.Size.{same}
use Rattle.market.proofs.MeasureLaws.{blocks_size}
use Rattle.book.specs.Ranges.{placed, ranged}
use Rattle.totals.specs.Sums.{one_block}
use Rattle.totals.proofs.over_blocks.Goals as goal

pub sum_of-requires-clause-parts_fit : goal.sum_of-requires-clause-parts_fit
sum_of-requires-clause-parts_fit c =
    let o = c.args.book.reads in
    let f = c.args.book.framed in (
      one_block f.counts f.day.now f.clearing.now c.args.measure,
      (
        record { each = λ i r l e. search rules },
        record { size = λ k l. let h = blocks_size _ _ _ (placed o) (ranged o) c.args.measure k l in omega arith },
      ),
    )

pub returns : goal.returns
returns c =
    same c.sum_of.result c.sum_of.type_inv
    ∙ c.sum_of.ensures _ (record { each = λ i r l e. search rules })
