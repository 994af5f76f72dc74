-- `reader::bad_field` meets its contract: the rows before i obey their rule. Assumes nothing.
use Rattle.std.proofs.Common.{sym, ◌∙◌}
use Rattle.stages.proofs.TableLaws.{row_fails}
use Rattle.reader.proofs.bad_field.Goals as goal

pub returns-in-Some : goal.returns-in-Some
returns-in-Some c =
    row_fails c.loop-i.invariant.1 (sym c.in-Some.is ∙ c.field.ensures) c.loop-i-test.true
