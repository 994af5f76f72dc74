use Rattle.std.proofs.Common.{◌≤◌}
use Rattle.cells.specs.Cells.{Tabled}
use Rattle.totals.specs.Gather.{after_flows}
use Rattle.totals.proofs.gather_line.Given as goal

abbrev pub invariant-loop-period : goal.invariant-loop-period
invariant-loop-period l = (l.period ≤ l.book.framed.counts.periods) × Tabled l.book.framed.counts.zones l.book.framed.counts.periods (after_flows l.book.framed.counts l.book.framed.day.now l.book.framed.clearing.now l.line l.period) l.flows
