-- `totals::rent_at` meets its contract. Assumes nothing.
use Rattle.std.proofs.Common.{◌≡◌, ◌∙◌, w64, to_z, of_z}
use Rattle.whole.proofs.Size.{same}
use Rattle.book.specs.Book.{line_of, flow_of, prices_of}
use Rattle.book.specs.Ranges.{placed, ranged}
use Rattle.totals.proofs.rent_at.Goals as goal
use Rattle.totals.proofs.rent_at.Goals.{After-flow, After-price, After-price-2}

pub price-requires : goal.price-requires
price-requires c =
    (rw c.line-ends.ensures ((placed c.args.book.reads).line_from _ c.requires.0), c.requires.1)

pub price-requires-2 : goal.price-requires-2
price-requires-2 c =
    (rw c.line-ends.ensures ((placed c.args.book.reads).line_to _ c.requires.0), c.requires.1)

-- the three numbers that are passed on

flow_is : (c : After-flow) → let a = c.args in
    to_z w64 (of_z w64 c.flow.result) ≡ flow_of a.book.framed.counts a.book.framed.clearing.now a.line a.period
flow_is c = same c.flow.result c.flow.type_inv ∙ c.flow.ensures

from_is : (c : After-price) → let a = c.args in
    to_z w64 (of_z w64 c.price.result)
    ≡ prices_of a.book.framed.counts a.book.framed.clearing.now (line_of a.book.framed.counts a.book.framed.day.now a.line).from a.period
from_is c = same c.price.result c.price.type_inv ∙ c.price.ensures ∙ rw c.line-ends.ensures

to_is : (c : After-price-2) → let a = c.args in
    to_z w64 (of_z w64 c.price-2.result)
    ≡ prices_of a.book.framed.counts a.book.framed.clearing.now (line_of a.book.framed.counts a.book.framed.day.now a.line).to a.period
to_is c = same c.price-2.result c.price-2.type_inv ∙ c.price-2.ensures ∙ rw c.line-ends.ensures

pub rent-requires : goal.rent-requires
rent-requires c =
    let p = c.requires in
    let in- = placed c.args.book.reads in
    let within = ranged c.args.book.reads in (
      rw (flow_is (goal.at.rent-requires c).After-flow) (within.flow _ _ p.0 p.1),
      (
        rw (from_is (goal.at.rent-requires c).After-price) (within.price _ _ (in-.line_from _ p.0) p.1),
        rw (to_is (goal.at.rent-requires c).After-price-2) (within.price _ _ (in-.line_to _ p.0) p.1),
      ),
    )
