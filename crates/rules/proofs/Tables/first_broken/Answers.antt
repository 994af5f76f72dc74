-- `Tables::first_broken` meets its contract: in the rows passed, and in this row's columns passed, the rule holds. Assumes nothing.
use Rattle.std.proofs.lemmas.Bool.{not-true}
use Rattle.std.proofs.Common.{sym, ◌∙◌}
use Rattle.stages.proofs.TableLaws.{stop_cell}
use Rattle.rules.proofs.Tables.first_broken.Goals as goal

pub returns-then-not-holds_at : goal.returns-then-not-holds_at
returns-then-not-holds_at c =
    stop_cell
    c.scan.invariant.1.1
    c.loop-column.invariant.1.1
    (sym c.holds_at.ensures ∙ not-true _ c.if-not-holds_at.true-raw)
    c.loop-column-test.true
    c.scan-test.true
    ∙ rw (c.columns_of-columns.ensures, c.rows_of-rows.ensures)
