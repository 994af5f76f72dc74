use Rattle.std.proofs.Common.{◌≤◌}
use Rattle.cells.specs.Cells.{Tabled}
use Rattle.totals.specs.Gather.{after_lines}
use Rattle.totals.proofs.gather_flows.Given as goal

abbrev pub invariant-loop-line : goal.invariant-loop-line
invariant-loop-line l = (l.line ≤ l.book.framed.counts.lines) × Tabled l.book.framed.counts.zones l.book.framed.counts.periods (after_lines l.book.framed.counts l.book.framed.day.now l.book.framed.clearing.now l.line) l.flows
