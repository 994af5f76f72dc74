-- `lookup::look_up_start` meets its contract. Assumes nothing.
use Rattle.std.proofs.Common.{sym, ◌∙◌}
use Rattle.lookup.specs.Reading.{of_day}
use Rattle.lookup.proofs.look_up_start.Goals as goal

pub rows_start-requires : goal.rows_start-requires
rows_start-requires c =
    let a = c.args in
    of_day a.section a.day.now (sym c.read_for.ensures ∙ c.in-Ok.is)
