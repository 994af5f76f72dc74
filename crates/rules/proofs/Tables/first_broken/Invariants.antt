use Rattle.std.proofs.Common.{◌≤◌, ◌≡◌}
use Rattle.std.specs.Prelude.{None}
use Rattle.stages.specs.First.{Passed}
use Rattle.stages.specs.Table.{RowsPassed}
use Rattle.rules.specs.Judge.{test}
use Rattle.rules.proofs.Tables.first_broken.Given as goal

abbrev pub invariant-loop-column : goal.invariant-loop-column
invariant-loop-column l =
    let f = l.self.book.framed in
    (l.column ≤ l.columns) × ((l.broken ≡ None) × Passed (test f.counts f.day.now f.clearing.now l.rule l.row) l.column)

abbrev pub invariant-scan : goal.invariant-scan
invariant-scan l =
    let f = l.self.book.framed in
    (l.row ≤ l.rows) × ((l.broken ≡ None) × RowsPassed (test f.counts f.day.now f.clearing.now l.rule) l.columns l.row)
