-- `totals::gather_line` meets its contract. The loop's invariant: the table holds what the lines before this one carry away, and what
-- this one does in its periods passed. Assumes nothing.
use Rattle.std.proofs.Common.{le_antisymm, arith, ◌≡◌, ◌∙◌, w64, to_z, of_z}
use Rattle.whole.proofs.Size.{same}
use Rattle.book.specs.Book.{flow_of}
use Rattle.book.specs.Ranges.{ranged}
use Rattle.totals.specs.Gather.{cells_most, from_next, to_next, no_flow_yet, line_done, next_below, next_fits, next_tabled}
use Rattle.totals.proofs.gather_line.Goals as goal
use Rattle.totals.proofs.gather_line.Goals.{After-flow}

pub loop-period-init : goal.loop-period-init
loop-period-init c = (omega arith, no_flow_yet c.args.book.reads c.args.line c.requires.tabled)

flow_is : (c : After-flow) → to_z w64 (of_z w64 c.flow.result) ≡ flow_of c.args.book.framed.counts c.args.book.framed.clearing.now c.args.line c.loop-period.period
flow_is c = same c.flow.result c.flow.type_inv ∙ c.flow.ensures

pub add_flow-requires : goal.add_flow-requires
add_flow-requires c =
    let o = c.args.book.reads in
    let most = cells_most o in
    let t = c.loop-period.invariant.1 in
    let from = from_next o c.requires.line_in c.loop-period-test.true in
    let to = to_next o c.requires.line_in c.loop-period-test.true in
    rw (flow_is (goal.at.add_flow-requires c).After-flow, c.line-ends.ensures) (record {
      flows_len = (t.long, (next_below most from, next_below most to));
      flow_bound = (ranged o).flow _ _ c.requires.line_in c.loop-period-test.true;
      sfits = next_fits most from t;
      sfits_2 = next_fits most to (next_tabled most from t);
    })

pub loop-period-preserved : goal.loop-period-preserved
loop-period-preserved c =
    let o = c.args.book.reads in
    let most = cells_most o in
    let t = c.loop-period.invariant.1 in
    let from = from_next o c.requires.line_in c.loop-period-test.true in
    let to = to_next o c.requires.line_in c.loop-period-test.true in
    (omega arith, rw (c.add_flow.ensures, flow_is (goal.at.loop-period-preserved c).After-flow, c.line-ends.ensures) (next_tabled most to (next_tabled most from t)))

pub returns : goal.returns
returns c =
    line_done c.args.book.reads c.args.line (rw (le_antisymm c.loop-period.invariant.0 c.loop-period-test.false) at c.loop-period.invariant.1)
