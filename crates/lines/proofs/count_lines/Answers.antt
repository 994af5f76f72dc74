-- `lines::count_lines` meets its contract. Assumes nothing.
use Rattle.lines.specs.Counted.{LinesAsk}
use Rattle.lines.specs.CountLaws.{no_line, line_asks, next_line, lines_counted}
use Rattle.lines.proofs.count_lines.Goals as goal
use Rattle.lines.proofs.count_lines.Goals.{Start}

-- what is asked, in one
asks : (c : Start) → let a = c.args in LinesAsk a.framed.counts a.framed.day.now a.framed.clearing.now a.flows.now a.sums.now
asks c = record {
  framed = c.args.framed.framed;
  prices = c.requires.prices;
  flows_room = c.requires.within.0;
  sums_room = c.requires.within.1;
}

pub loop-line-init : goal.loop-line-init
loop-line-init c = no_line

pub count_line-requires : goal.count_line-requires
count_line-requires c =
    line_asks c.loop-line.invariant (asks (goal.at.count_line-requires c).Start) c.loop-line-test.true c.lines_part-part.ensures
    c.row_start.ensures.0 c.row_start.ensures.1

pub loop-line-preserved : goal.loop-line-preserved
loop-line-preserved c =
    next_line c.loop-line.invariant (asks (goal.at.loop-line-preserved c).Start) c.loop-line-test.true c.lines_part-part.ensures
    c.row_start.ensures.0 (c.count_line.ensures c.if-not-count_line.false)

pub returns : goal.returns
returns c _ = lines_counted c.loop-line.invariant c.loop-line-test.false
