-- `lookup::look_up` meets its contract. Assumes nothing.
use Rattle.std.proofs.Common.{sym, ◌∙◌}
use Rattle.lookup.specs.Reading.{of_day}
use Rattle.lookup.proofs.look_up.Goals as goal

pub named_rows-requires : goal.named_rows-requires
named_rows-requires c =
    let a = c.args in
    of_day a.section a.day.now (sym c.read_for.ensures ∙ c.in-Ok.is)
