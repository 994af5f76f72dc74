-- `rows::Form::no_quantity` meets its contract. Assumes nothing.
use Rattle.std.proofs.Common.{sym, ◌∙◌}
use Rattle.rows.specs.Laws.{some_quantity, no_quantity}
use Rattle.rows.proofs.Form.no_quantity.Goals as goal

pub returns-in-Some : goal.returns-in-Some
returns-in-Some c =
    let a = c.args in
    some_quantity a.self.periods 0 a.part.now a.at (sym c.in-Some.is ∙ c.first_above.ensures)

pub returns-in-None : goal.returns-in-None
returns-in-None c =
    let a = c.args in
    no_quantity a.self.periods 0 a.part.now a.at (sym c.in-None.is ∙ c.first_above.ensures)
