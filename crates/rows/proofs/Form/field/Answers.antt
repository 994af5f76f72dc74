-- `rows::Form::field` meets its contract: each arm, by the kind that it is for. Assumes nothing.
use Rattle.std.proofs.Common.{◌≡◌, ◌∙◌}
use Rattle.stages.specs.First.{first_bad}
use Rattle.rows.specs.Rows.{field_count, row_fields, field_ok}
use Rattle.rows.specs.Laws.{row_first}
use Rattle.rows.specs.declared.Kind.{Kind}
use Rattle.rows.proofs.Form.field.Goals as goal
use Rattle.rows.proofs.Form.field.Goals.{After-start-at}

by_kind : (c : After-start-at) {k : Kind} → c.args.self.kind ≡ k →
    first_bad (field_count k c.args.self.periods) (row_fields k c.args.self.periods c.args.zones c.args.part.now c.args.i c.start-at.result)
    ≡ first_bad (field_count c.args.self.kind c.args.self.periods) (field_ok c.args.self.kind c.args.self.periods c.args.zones c.args.part.now c.args.i)
by_kind c e = row_first c.args.self.periods c.args.zones c.args.part.now c.args.i e c.start-at.ensures

pub returns-in-Periods : goal.returns-in-Periods
returns-in-Periods c = c.period_field.ensures ∙ by_kind (goal.at.returns-in-Periods c).After-start-at c.in-Periods.is

pub returns-in-Zones : goal.returns-in-Zones
returns-in-Zones c = c.zone_field.ensures ∙ by_kind (goal.at.returns-in-Zones c).After-start-at c.in-Zones.is

pub returns-in-Lines : goal.returns-in-Lines
returns-in-Lines c = c.line_field.ensures ∙ by_kind (goal.at.returns-in-Lines c).After-start-at c.in-Lines.is

pub returns-in-Steps : goal.returns-in-Steps
returns-in-Steps c = c.step_field.ensures ∙ by_kind (goal.at.returns-in-Steps c).After-start-at c.in-Steps.is

pub returns-in-Blocks : goal.returns-in-Blocks
returns-in-Blocks c = c.block_field.ensures ∙ by_kind (goal.at.returns-in-Blocks c).After-start-at c.in-Blocks.is

pub returns-in-Prices : goal.returns-in-Prices
returns-in-Prices c = c.signed_field.ensures ∙ by_kind (goal.at.returns-in-Prices c).After-start-at c.in-Prices.is

pub returns-in-Flows : goal.returns-in-Flows
returns-in-Flows c = c.signed_field-in-Flows.ensures ∙ by_kind (goal.at.returns-in-Flows c).After-start-at c.in-Flows.is

pub returns-in-Volumes : goal.returns-in-Volumes
returns-in-Volumes c = c.volume_field.ensures ∙ by_kind (goal.at.returns-in-Volumes c).After-start-at c.in-Volumes.is

pub returns-in-Ratios : goal.returns-in-Ratios
returns-in-Ratios c = c.ratio_field.ensures ∙ by_kind (goal.at.returns-in-Ratios c).After-start-at c.in-Ratios.is
