use Rattle.std.proofs.Common.{◌-◌, ◌≤◌}
use Rattle.stages.specs.Table.{RowsPassed}
use Rattle.rows.specs.Rows.{field_count, field_ok}
use Rattle.reader.proofs.bad_field.Given as goal

abbrev pub invariant-loop-i : goal.invariant-loop-i
invariant-loop-i l = (l.i ≤ l.n) × RowsPassed (field_ok l.form.kind l.form.periods l.zones l.part) (field_count l.form.kind l.form.periods) l.i

abbrev pub decreases-loop-i : goal.decreases-loop-i
decreases-loop-i l = l.n - l.i
