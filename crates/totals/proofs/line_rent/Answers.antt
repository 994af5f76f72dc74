-- `totals::line_rent` meets its contract. Assumes nothing.
use Rattle.std.proofs.Common.{rules, arith, ◌∙◌}
use Rattle.whole.proofs.Size.{same}
use Rattle.market.proofs.MeasureLaws.{rent_part_size}
use Rattle.book.specs.Ranges.{placed, ranged}
use Rattle.totals.specs.Sums.{rent_at}
use Rattle.totals.proofs.line_rent.Goals as goal

pub sum_of-requires-clause-parts_fit : goal.sum_of-requires-clause-parts_fit
sum_of-requires-clause-parts_fit c =
    let o = c.args.book.reads in
    let f = c.args.book.framed in (
      rent_at f.counts f.day.now f.clearing.now c.args.line,
      (
        record { each = λ i r l e. search rules },
        record { size = λ k l. let h = rent_part_size _ _ _ (placed o) (ranged o) k c.args.line l c.requires in omega arith },
      ),
    )

pub returns : goal.returns
returns c =
    same c.sum_of.result c.sum_of.type_inv
    ∙ c.sum_of.ensures _ (record { each = λ i r l e. search rules })
