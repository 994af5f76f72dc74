-- `rows::Form::block_field` meets its contract: a field that fails by itself, or the last where there is no quantity. Assumes nothing.
use Rattle.std.proofs.Common.{rules}
use Rattle.rows.specs.Laws.{block_first}
use Rattle.rows.proofs.OrElse.{or_else_is}
use Rattle.rows.proofs.Form.block_field.Goals as goal

pub returns : goal.returns
returns c =
    let a = c.args in
    rw (block_first a.self.periods a.zones a.part.now a.at, ← c.block_by_itself.ensures)
    (or_else_is c.block_by_itself.result _ c.or_else.ensures (λ n. search rules) (λ k s. s))
