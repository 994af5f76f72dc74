-- `totals::rent` meets its contract. Assumes nothing.
use Rattle.std.proofs.Common.{rules, arith, ◌∙◌}
use Rattle.whole.proofs.Size.{same}
use Rattle.market.proofs.MeasureLaws.{rents_size}
use Rattle.book.specs.Ranges.{placed, ranged}
use Rattle.totals.specs.Sums.{line_rent}
use Rattle.totals.proofs.rent.Goals as goal

pub sum_of-requires-clause-parts_fit : goal.sum_of-requires-clause-parts_fit
sum_of-requires-clause-parts_fit c =
    let o = c.args.book.reads in
    let f = c.args.book.framed in (
      line_rent f.counts f.day.now f.clearing.now,
      (
        record { each = λ i r l e. search rules },
        record { size = λ k l. let h = rents_size _ _ _ (placed o) (ranged o) k l in omega arith },
      ),
    )

pub returns : goal.returns
returns c =
    same c.sum_of.result c.sum_of.type_inv
    ∙ c.sum_of.ensures _ (record { each = λ i r l e. search rules })
