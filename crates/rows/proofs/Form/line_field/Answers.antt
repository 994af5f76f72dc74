-- `rows::Form::line_field` meets its contract: an end, or a capacity counted on behind them. Assumes nothing.
use Rattle.std.proofs.Common.{◌≡◌, rules}
use Rattle.stages.specs.First.{first_bad}
use Rattle.limits.specs.Fields.{only}
use Rattle.limits.specs.Rules.{ends_rule}
use Rattle.rows.specs.Rows.{from, to}
use Rattle.rows.specs.Laws.{line_first}
use Rattle.rows.proofs.OrElse.{or_else_is}
use Rattle.rows.proofs.Form.line_field.Goals as goal
use Rattle.rows.proofs.Form.line_field.Goals.{After-ends_field}

ends_first : (c : After-ends_field) → let a = c.args in
    c.ends_field.result ≡ first_bad 2 (only (ends_rule a.zones (from a.part.now a.at) (to a.part.now a.at)))
ends_first c = cc

pub returns : goal.returns
returns c =
    let a = c.args in
    rw (line_first a.self.periods a.zones a.part.now a.at, ← ends_first (goal.at.returns c).After-ends_field)
    (or_else_is c.ends_field.result _ c.or_else.ensures (λ n. search rules) (λ k s. s))
