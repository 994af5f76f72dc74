use Rattle.std.proofs.Common.{◌≤◌}
use Rattle.cells.specs.Cells.{Tabled}
use Rattle.totals.specs.Gather.{after_steps}
use Rattle.totals.proofs.gather_steps.Given as goal

abbrev pub invariant-loop-row : goal.invariant-loop-row
invariant-loop-row l = (l.row ≤ l.book.framed.counts.steps) × Tabled l.book.framed.counts.zones l.book.framed.counts.periods (after_steps l.book.framed.counts l.book.framed.day.now l.book.framed.clearing.now l.row) l.nets
