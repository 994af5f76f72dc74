-- `rows::Form::block_by_itself` meets its contract: one of the first fields, or a quantity counted on behind them. Assumes nothing.
use Rattle.std.proofs.Common.{◌≡◌, w64, rules}
use Rattle.std.proofs.lemmas.Int.{to_z-of_z}
use Rattle.stages.specs.First.{first_bad}
use Rattle.limits.specs.Fields.{only}
use Rattle.limits.specs.Rules.{block_rule}
use Rattle.rows.specs.Rows.{block_zone, block_side, block_least, block_price}
use Rattle.rows.specs.Laws.{by_itself}
use Rattle.rows.proofs.OrElse.{or_else_is}
use Rattle.rows.proofs.Form.block_by_itself.Goals as goal
use Rattle.rows.proofs.Form.block_by_itself.Goals.{After-block_field}

head_first : (c : After-block_field) → let a = c.args in
    c.block_field.result
    ≡ first_bad 4 (only (block_rule a.zones (block_zone a.part.now a.at) (block_side a.part.now a.at) (block_least a.part.now a.at)
    (block_price a.part.now a.at)))
head_first c = let price = c.i32_at in cc (to_z-of_z w64 price.result (record { sfits = price.type_inv }))

pub returns : goal.returns
returns c =
    let a = c.args in
    rw (by_itself a.self.periods a.zones a.part.now a.at, ← head_first (goal.at.returns c).After-block_field)
    (or_else_is c.block_field.result _ c.or_else.ensures (λ n. search rules) (λ k s. s))
