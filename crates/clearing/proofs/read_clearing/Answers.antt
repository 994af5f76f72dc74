-- `clearing::read_clearing` meets its contract: a section's fault is the file's, and what is left of the file is handed on. Assumes nothing.
use Rattle.std.specs.Prelude.{◌≡◌, ◌*◌, Result}
use Rattle.std.proofs.Common.{sym, ◌∙◌}
use Rattle.std.proofs.lemmas.Result.{err_from_is_err_and}
use Rattle.stages.proofs.StageLaws.{refused_by, passed_by}
use Rattle.stages.specs.declared.Refusal.{Refusal}
use Rattle.stages.specs.Stage.{judged}
use Rattle.sections.specs.Section.{ended}
use Rattle.sections.specs.Answer.{Read}
use Rattle.rows.specs.Rows.{row_size}
use Rattle.rows.specs.declared.Kind.TheVariants.{Prices, Flows, Volumes, Ratios}
use Rattle.reader.specs.Chain.{reading_read, fault_returns, handed_on}
use Rattle.day.specs.declared.Counts.{Counts}
use Rattle.clearing.specs.Clearing.{clearing_numbers, clearing_stages}
use Rattle.clearing.specs.Chain.{from_flows, from_volumes, from_ratios}
use Rattle.clearing.proofs.read_clearing.Goals as goal
use Rattle.clearing.proofs.read_clearing.Goals.{In_ok-prices, In_ok-flows, In_ok-volumes, In_ok-ratios, After-rest-flows_part, After-rest-volumes_part, After-rest-ratios_part, After-rest-end}

-- ---- what a section that was read tells

read_prices : (c : In_ok-prices) → Read (c.args.counts.zones * c.args.counts.periods) (c.args.counts.zones * c.args.counts.periods) (row_size Prices 0) c.args.clearing.now c.in_ok-prices.prices
read_prices c = reading_read clearing_numbers 1 Prices (c.args.counts.zones * c.args.counts.periods) (c.args.counts.zones * c.args.counts.periods) 0 0 c.args.clearing.now (sym c.read_section.ensures ∙ c.in_ok-prices.was)

read_flows : (c : In_ok-flows) → Read (c.args.counts.lines * c.args.counts.periods) (c.args.counts.lines * c.args.counts.periods) (row_size Flows 0) c.rest-flows_part.result.now c.in_ok-flows.flows
read_flows c = reading_read clearing_numbers 2 Flows (c.args.counts.lines * c.args.counts.periods) (c.args.counts.lines * c.args.counts.periods) 0 0 c.rest-flows_part.result.now (sym c.read_section-2.ensures ∙ c.in_ok-flows.was)

read_volumes : (c : In_ok-volumes) → Read c.args.counts.steps c.args.counts.steps (row_size Volumes 0) c.rest-volumes_part.result.now c.in_ok-volumes.volumes
read_volumes c = reading_read clearing_numbers 3 Volumes c.args.counts.steps c.args.counts.steps 0 0 c.rest-volumes_part.result.now (sym c.read_section-3.ensures ∙ c.in_ok-volumes.was)

read_ratios : (c : In_ok-ratios) → Read c.args.counts.blocks c.args.counts.blocks (row_size Ratios 0) c.rest-ratios_part.result.now c.in_ok-ratios.ratios
read_ratios c = reading_read clearing_numbers 4 Ratios c.args.counts.blocks c.args.counts.blocks 0 0 c.rest-ratios_part.result.now (sym c.read_section-4.ensures ∙ c.in_ok-ratios.was)

-- ---- the answer from a section on is the file's

past_prices : (c : After-rest-flows_part) {r : Result Counts Refusal} → r ≡ judged c.args.counts (from_flows c.args.counts c.rest-flows_part.result.now) → r ≡ judged c.args.counts (clearing_stages c.args.counts c.args.clearing.now)
unfolding clearing_stages
past_prices c e =
    handed_on clearing_numbers 1 Prices (c.args.counts.zones * c.args.counts.periods) (c.args.counts.zones * c.args.counts.periods) 0 0 c.args.clearing.now (λ left n. c.args.counts) (λ left n. from_flows c.args.counts left)
    (sym c.read_section.ensures ∙ c.in_ok-prices.was) c.rest-flows_part.ensures.0 e

past_flows : (c : After-rest-volumes_part) {r : Result Counts Refusal} → r ≡ judged c.args.counts (from_volumes c.args.counts c.rest-volumes_part.result.now) → r ≡ judged c.args.counts (from_flows c.args.counts c.rest-flows_part.result.now)
past_flows c e =
    handed_on clearing_numbers 2 Flows (c.args.counts.lines * c.args.counts.periods) (c.args.counts.lines * c.args.counts.periods) 0 0 c.rest-flows_part.result.now (λ left n. c.args.counts) (λ left n. from_volumes c.args.counts left)
    (sym c.read_section-2.ensures ∙ c.in_ok-flows.was) c.rest-volumes_part.ensures.0 e

past_volumes : (c : After-rest-ratios_part) {r : Result Counts Refusal} → r ≡ judged c.args.counts (from_ratios c.args.counts c.rest-ratios_part.result.now) → r ≡ judged c.args.counts (from_volumes c.args.counts c.rest-volumes_part.result.now)
past_volumes c e =
    handed_on clearing_numbers 3 Volumes c.args.counts.steps c.args.counts.steps 0 0 c.rest-volumes_part.result.now (λ left n. c.args.counts) (λ left n. from_ratios c.args.counts left)
    (sym c.read_section-3.ensures ∙ c.in_ok-volumes.was) c.rest-ratios_part.ensures.0 e

past_ratios : (c : After-rest-end) {r : Result Counts Refusal} → r ≡ judged c.args.counts (ended 8 c.rest-end.result.now) → r ≡ judged c.args.counts (from_ratios c.args.counts c.rest-ratios_part.result.now)
past_ratios c e =
    handed_on clearing_numbers 4 Ratios c.args.counts.blocks c.args.counts.blocks 0 0 c.rest-ratios_part.result.now (λ left n. c.args.counts) (λ left n. ended 8 left)
    (sym c.read_section-4.ensures ∙ c.in_ok-ratios.was) c.rest-end.ensures.0 e

-- ---- the goals

pub rest-flows_part-requires : goal.rest-flows_part-requires
rest-flows_part-requires c =
    let r = read_prices (goal.at.rest-flows_part-requires c).In_ok-prices in
    (r.counted, r.room)

pub returns-in_err-prices : goal.returns-in_err-prices
unfolding clearing_stages
returns-in_err-prices c =
    let p = err_from_is_err_and c.from_residual.result c.from_residual.ensures.1 in
    rw (p.1, p.2) (
    fault_returns clearing_numbers 1 Prices (c.args.counts.zones * c.args.counts.periods) (c.args.counts.zones * c.args.counts.periods) 0 0 c.args.clearing.now (λ left n. c.args.counts) (λ left n. from_flows c.args.counts left)
    (sym c.read_section.ensures ∙ c.in_err-prices.was))

pub rest-volumes_part-requires : goal.rest-volumes_part-requires
rest-volumes_part-requires c =
    let r = read_flows (goal.at.rest-volumes_part-requires c).In_ok-flows in
    (r.counted, r.room)

pub returns-in_err-flows : goal.returns-in_err-flows
returns-in_err-flows c =
    let p = err_from_is_err_and c.from_residual-in_err-flows.result c.from_residual-in_err-flows.ensures.1 in
    rw (p.1, p.2) (
    past_prices (goal.at.returns-in_err-flows c).After-rest-flows_part (
    fault_returns clearing_numbers 2 Flows (c.args.counts.lines * c.args.counts.periods) (c.args.counts.lines * c.args.counts.periods) 0 0 c.rest-flows_part.result.now (λ left n. c.args.counts) (λ left n. from_volumes c.args.counts left)
    (sym c.read_section-2.ensures ∙ c.in_err-flows.was)))

pub rest-ratios_part-requires : goal.rest-ratios_part-requires
rest-ratios_part-requires c =
    let r = read_volumes (goal.at.rest-ratios_part-requires c).In_ok-volumes in
    (r.counted, r.room)

pub returns-in_err-volumes : goal.returns-in_err-volumes
returns-in_err-volumes c =
    let p = err_from_is_err_and c.from_residual-in_err-volumes.result c.from_residual-in_err-volumes.ensures.1 in
    rw (p.1, p.2) (
    past_prices (goal.at.returns-in_err-volumes c).After-rest-flows_part (
    past_flows (goal.at.returns-in_err-volumes c).After-rest-volumes_part (
    fault_returns clearing_numbers 3 Volumes c.args.counts.steps c.args.counts.steps 0 0 c.rest-volumes_part.result.now (λ left n. c.args.counts) (λ left n. from_ratios c.args.counts left)
    (sym c.read_section-3.ensures ∙ c.in_err-volumes.was))))

pub rest-end-requires : goal.rest-end-requires
rest-end-requires c =
    let r = read_ratios (goal.at.rest-end-requires c).In_ok-ratios in
    (r.counted, r.room)

pub returns-in_err-ratios : goal.returns-in_err-ratios
returns-in_err-ratios c =
    let p = err_from_is_err_and c.from_residual-in_err-ratios.result c.from_residual-in_err-ratios.ensures.1 in
    rw (p.1, p.2) (
    past_prices (goal.at.returns-in_err-ratios c).After-rest-flows_part (
    past_flows (goal.at.returns-in_err-ratios c).After-rest-volumes_part (
    past_volumes (goal.at.returns-in_err-ratios c).After-rest-ratios_part (
    fault_returns clearing_numbers 4 Ratios c.args.counts.blocks c.args.counts.blocks 0 0 c.rest-ratios_part.result.now (λ left n. c.args.counts) (λ left n. ended 8 left)
    (sym c.read_section-4.ensures ∙ c.in_err-ratios.was)))))

pub returns-in_err-read_end : goal.returns-in_err-read_end
returns-in_err-read_end c =
    let p = err_from_is_err_and c.from_residual-in_err-read_end.result c.from_residual-in_err-read_end.ensures.1 in
    rw (p.1, p.2) (
    past_prices (goal.at.returns-in_err-read_end c).After-rest-flows_part (
    past_flows (goal.at.returns-in_err-read_end c).After-rest-volumes_part (
    past_volumes (goal.at.returns-in_err-read_end c).After-rest-ratios_part (
    past_ratios (goal.at.returns-in_err-read_end c).After-rest-end (
    refused_by _ (sym c.read_end.ensures ∙ c.in_err-read_end.was))))))

pub returns : goal.returns
returns c =
    past_prices (goal.at.returns c).After-rest-flows_part (
    past_flows (goal.at.returns c).After-rest-volumes_part (
    past_volumes (goal.at.returns c).After-rest-ratios_part (
    past_ratios (goal.at.returns c).After-rest-end (
    passed_by _ (sym c.read_end.ensures ∙ c.in_ok-read_end.was)))))
