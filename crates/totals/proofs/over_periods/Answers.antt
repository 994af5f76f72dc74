-- `totals::over_periods` meets its contract. Assumes nothing.
use Rattle.std.proofs.Common.{rules, arith, ◌∙◌}
use Rattle.whole.proofs.Size.{same}
use Rattle.market.specs.Measures.{block_measured}
use Rattle.market.proofs.MeasureLaws.{block_part_size}
use Rattle.book.specs.Ranges.{placed, ranged}
use Rattle.totals.specs.Sums.{one_period}
use Rattle.totals.proofs.over_periods.Goals as goal

pub sum_of-requires-clause-parts_fit : goal.sum_of-requires-clause-parts_fit
sum_of-requires-clause-parts_fit c =
    let o = c.args.book.reads in
    let f = c.args.book.framed in (
      one_period f.counts f.day.now f.clearing.now c.args.measure c.args.row c.args.ratio,
      (
        record { each = λ i r l e. search rules },
        record { size = λ k l. let h = block_part_size _ _ _ (placed o) (ranged o) c.args.measure k c.args.row c.args.ratio l c.requires.0 c.requires.1 in omega arith },
      ),
    )

pub returns : goal.returns
unfolding block_measured
returns c =
    same c.sum_of.result c.sum_of.type_inv
    ∙ c.sum_of.ensures _ (record { each = λ i r l e. search rules })
