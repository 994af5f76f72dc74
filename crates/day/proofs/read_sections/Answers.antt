-- `day::read_sections` meets its contract: a section's fault is the file's, and what is left of the file is handed on. Assumes nothing.
use Rattle.std.specs.Prelude.{◌≡◌, Result}
use Rattle.std.proofs.Common.{sym, ◌∙◌}
use Rattle.std.proofs.lemmas.Result.{err_from_is_err_and}
use Rattle.stages.proofs.StageLaws.{refused_by, passed_by}
use Rattle.stages.specs.declared.Refusal.{Refusal}
use Rattle.stages.specs.Stage.{judged}
use Rattle.limits.specs.Limits.{most_periods, most_zones, most_lines, most_steps, most_blocks}
use Rattle.sections.specs.Section.{ended}
use Rattle.sections.specs.Answer.{Read}
use Rattle.rows.specs.Rows.{row_size}
use Rattle.rows.specs.declared.Kind.TheVariants.{Periods, Zones, Lines, Steps, Blocks}
use Rattle.reader.specs.Chain.{reading_read, fault_returns, handed_on}
use Rattle.day.specs.Day.{day_numbers, day_stages, day_file}
use Rattle.day.specs.Chain.{counts_of, counts_zones, counts_lines, counts_steps, counts_blocks, from_zones, from_lines, from_steps, from_blocks}
use Rattle.day.specs.declared.Counts.{Counts}
use Rattle.day.proofs.read_sections.Goals as goal
use Rattle.day.proofs.read_sections.Goals.{In_ok-periods, In_ok-zones, In_ok-lines, In_ok-steps, In_ok-blocks, After-rest-zones_part, After-rest-lines_part, After-rest-steps_part, After-rest-blocks_part, After-rest-end}

-- ---- what a section that was read tells

read_periods : (c : In_ok-periods) → Read 1 most_periods (row_size Periods 0) c.args.file.now c.in_ok-periods.periods
read_periods c = reading_read day_numbers 1 Periods 1 most_periods 0 0 c.args.file.now (sym c.read_section.ensures ∙ c.in_ok-periods.was)

read_zones : (c : In_ok-zones) → Read 1 most_zones (row_size Zones c.in_ok-periods.periods) c.rest-zones_part.result.now c.in_ok-zones.zones
read_zones c = reading_read day_numbers 2 Zones 1 most_zones c.in_ok-periods.periods 0 c.rest-zones_part.result.now (sym c.read_section-2.ensures ∙ c.in_ok-zones.was)

read_lines : (c : In_ok-lines) → Read 0 most_lines (row_size Lines c.in_ok-periods.periods) c.rest-lines_part.result.now c.in_ok-lines.lines
read_lines c = reading_read day_numbers 3 Lines 0 most_lines c.in_ok-periods.periods c.in_ok-zones.zones c.rest-lines_part.result.now (sym c.read_section-3.ensures ∙ c.in_ok-lines.was)

read_steps : (c : In_ok-steps) → Read 0 most_steps (row_size Steps c.in_ok-periods.periods) c.rest-steps_part.result.now c.in_ok-steps.steps
read_steps c = reading_read day_numbers 4 Steps 0 most_steps c.in_ok-periods.periods c.in_ok-zones.zones c.rest-steps_part.result.now (sym c.read_section-4.ensures ∙ c.in_ok-steps.was)

read_blocks : (c : In_ok-blocks) → Read 0 most_blocks (row_size Blocks c.in_ok-periods.periods) c.rest-blocks_part.result.now c.in_ok-blocks.blocks
read_blocks c = reading_read day_numbers 5 Blocks 0 most_blocks c.in_ok-periods.periods c.in_ok-zones.zones c.rest-blocks_part.result.now (sym c.read_section-5.ensures ∙ c.in_ok-blocks.was)

-- ---- the answer from a section on is the file's

past_periods : (c : After-rest-zones_part) {r : Result Counts Refusal} → r ≡ judged (counts_zones c.in_ok-periods.periods c.rest-zones_part.result.now) (from_zones c.in_ok-periods.periods c.rest-zones_part.result.now) → r ≡ day_file c.args.file.now
unfolding day_stages
past_periods c e =
    handed_on day_numbers 1 Periods 1 most_periods 0 0 c.args.file.now (λ left n. counts_zones n left) (λ left n. from_zones n left)
    (sym c.read_section.ensures ∙ c.in_ok-periods.was) c.rest-zones_part.ensures.0 e

past_zones : (c : After-rest-lines_part) {r : Result Counts Refusal} → r ≡ judged (counts_lines c.in_ok-periods.periods c.in_ok-zones.zones c.rest-lines_part.result.now) (from_lines c.in_ok-periods.periods c.in_ok-zones.zones c.rest-lines_part.result.now) → r ≡ day_file c.args.file.now
past_zones c e = past_periods (goal.at.invariant_of-of_lines c).After-rest-zones_part (
    handed_on day_numbers 2 Zones 1 most_zones c.in_ok-periods.periods 0 c.rest-zones_part.result.now (λ left n. counts_lines c.in_ok-periods.periods n left) (λ left n. from_lines c.in_ok-periods.periods n left)
    (sym c.read_section-2.ensures ∙ c.in_ok-zones.was) c.rest-lines_part.ensures.0 e)

past_lines : (c : After-rest-steps_part) {r : Result Counts Refusal} → r ≡ judged (counts_steps c.in_ok-periods.periods c.in_ok-zones.zones c.in_ok-lines.lines c.rest-steps_part.result.now) (from_steps c.in_ok-periods.periods c.in_ok-zones.zones c.rest-steps_part.result.now) → r ≡ day_file c.args.file.now
past_lines c e = past_zones (goal.at.invariant_of-of_steps c).After-rest-lines_part (
    handed_on day_numbers 3 Lines 0 most_lines c.in_ok-periods.periods c.in_ok-zones.zones c.rest-lines_part.result.now (λ left n. counts_steps c.in_ok-periods.periods c.in_ok-zones.zones n left) (λ left n. from_steps c.in_ok-periods.periods c.in_ok-zones.zones left)
    (sym c.read_section-3.ensures ∙ c.in_ok-lines.was) c.rest-steps_part.ensures.0 e)

past_steps : (c : After-rest-blocks_part) {r : Result Counts Refusal} → r ≡ judged (counts_blocks c.in_ok-periods.periods c.in_ok-zones.zones c.in_ok-lines.lines c.in_ok-steps.steps c.rest-blocks_part.result.now) (from_blocks c.in_ok-periods.periods c.in_ok-zones.zones c.rest-blocks_part.result.now) → r ≡ day_file c.args.file.now
past_steps c e = past_lines (goal.at.invariant_of-of_blocks c).After-rest-steps_part (
    handed_on day_numbers 4 Steps 0 most_steps c.in_ok-periods.periods c.in_ok-zones.zones c.rest-steps_part.result.now (λ left n. counts_blocks c.in_ok-periods.periods c.in_ok-zones.zones c.in_ok-lines.lines n left) (λ left n. from_blocks c.in_ok-periods.periods c.in_ok-zones.zones left)
    (sym c.read_section-4.ensures ∙ c.in_ok-steps.was) c.rest-blocks_part.ensures.0 e)

past_blocks : (c : After-rest-end) {r : Result Counts Refusal} → r ≡ judged (counts_of c.in_ok-periods.periods c.in_ok-zones.zones c.in_ok-lines.lines c.in_ok-steps.steps c.in_ok-blocks.blocks) (ended 4 c.rest-end.result.now) →
    r ≡ judged (counts_blocks c.in_ok-periods.periods c.in_ok-zones.zones c.in_ok-lines.lines c.in_ok-steps.steps c.rest-blocks_part.result.now) (from_blocks c.in_ok-periods.periods c.in_ok-zones.zones c.rest-blocks_part.result.now)
past_blocks c e =
    handed_on day_numbers 5 Blocks 0 most_blocks c.in_ok-periods.periods c.in_ok-zones.zones c.rest-blocks_part.result.now (λ left n. counts_of c.in_ok-periods.periods c.in_ok-zones.zones c.in_ok-lines.lines c.in_ok-steps.steps n) (λ left n. ended 4 left)
    (sym c.read_section-5.ensures ∙ c.in_ok-blocks.was) c.rest-end.ensures.0 e

-- ---- the goals

pub rest-zones_part-requires : goal.rest-zones_part-requires
rest-zones_part-requires c =
    let r = read_periods (goal.at.rest-zones_part-requires c).In_ok-periods in
    (r.counted, r.room)

pub returns-in_err-periods : goal.returns-in_err-periods
unfolding day_stages
returns-in_err-periods c =
    let p = err_from_is_err_and c.from_residual.result c.from_residual.ensures.1 in
    rw (p.1, p.2) (
    fault_returns day_numbers 1 Periods 1 most_periods 0 0 c.args.file.now (λ left n. counts_zones n left) (λ left n. from_zones n left)
    (sym c.read_section.ensures ∙ c.in_err-periods.was))

pub rest-lines_part-requires : goal.rest-lines_part-requires
rest-lines_part-requires c =
    let r = read_zones c in
    (r.counted, r.room)

pub invariant_of-of_zones : goal.invariant_of-of_zones
invariant_of-of_zones c = record { most = (read_periods (goal.at.invariant_of-of_zones c).In_ok-periods).most_is }

pub returns-in_err-zones : goal.returns-in_err-zones
returns-in_err-zones c =
    let p = err_from_is_err_and c.from_residual-in_err-zones.result c.from_residual-in_err-zones.ensures.1 in
    rw (p.1, p.2) (past_periods (goal.at.returns-in_err-zones c).After-rest-zones_part (
    fault_returns day_numbers 2 Zones 1 most_zones c.in_ok-periods.periods 0 c.rest-zones_part.result.now (λ left n. counts_lines c.in_ok-periods.periods n left) (λ left n. from_lines c.in_ok-periods.periods n left)
    (sym c.read_section-2.ensures ∙ c.in_err-zones.was)))

pub rest-steps_part-requires : goal.rest-steps_part-requires
rest-steps_part-requires c =
    let r = read_lines c in
    (r.counted, r.room)

pub invariant_of-of_lines : goal.invariant_of-of_lines
invariant_of-of_lines c = record { most = (read_periods (goal.at.invariant_of-of_lines c).In_ok-periods).most_is }

pub returns-in_err-lines : goal.returns-in_err-lines
returns-in_err-lines c =
    let p = err_from_is_err_and c.from_residual-in_err-lines.result c.from_residual-in_err-lines.ensures.1 in
    rw (p.1, p.2) (past_zones (goal.at.returns-in_err-lines c).After-rest-lines_part (
    fault_returns day_numbers 3 Lines 0 most_lines c.in_ok-periods.periods c.in_ok-zones.zones c.rest-lines_part.result.now (λ left n. counts_steps c.in_ok-periods.periods c.in_ok-zones.zones n left) (λ left n. from_steps c.in_ok-periods.periods c.in_ok-zones.zones left)
    (sym c.read_section-3.ensures ∙ c.in_err-lines.was)))

pub rest-blocks_part-requires : goal.rest-blocks_part-requires
rest-blocks_part-requires c =
    let r = read_steps c in
    (r.counted, r.room)

pub invariant_of-of_steps : goal.invariant_of-of_steps
invariant_of-of_steps c = record { most = (read_periods (goal.at.invariant_of-of_steps c).In_ok-periods).most_is }

pub returns-in_err-steps : goal.returns-in_err-steps
returns-in_err-steps c =
    let p = err_from_is_err_and c.from_residual-in_err-steps.result c.from_residual-in_err-steps.ensures.1 in
    rw (p.1, p.2) (past_lines (goal.at.returns-in_err-steps c).After-rest-steps_part (
    fault_returns day_numbers 4 Steps 0 most_steps c.in_ok-periods.periods c.in_ok-zones.zones c.rest-steps_part.result.now (λ left n. counts_blocks c.in_ok-periods.periods c.in_ok-zones.zones c.in_ok-lines.lines n left) (λ left n. from_blocks c.in_ok-periods.periods c.in_ok-zones.zones left)
    (sym c.read_section-4.ensures ∙ c.in_err-steps.was)))

pub rest-end-requires : goal.rest-end-requires
rest-end-requires c =
    let r = read_blocks c in
    (r.counted, r.room)

pub invariant_of-of_blocks : goal.invariant_of-of_blocks
invariant_of-of_blocks c = record { most = (read_periods (goal.at.invariant_of-of_blocks c).In_ok-periods).most_is }

pub returns-in_err-blocks : goal.returns-in_err-blocks
returns-in_err-blocks c =
    let p = err_from_is_err_and c.from_residual-in_err-blocks.result c.from_residual-in_err-blocks.ensures.1 in
    rw (p.1, p.2) (past_steps (goal.at.returns-in_err-blocks c).After-rest-blocks_part (
    fault_returns day_numbers 5 Blocks 0 most_blocks c.in_ok-periods.periods c.in_ok-zones.zones c.rest-blocks_part.result.now (λ left n. counts_of c.in_ok-periods.periods c.in_ok-zones.zones c.in_ok-lines.lines c.in_ok-steps.steps n) (λ left n. ended 4 left)
    (sym c.read_section-5.ensures ∙ c.in_err-blocks.was)))

pub returns-in_err-read_end : goal.returns-in_err-read_end
returns-in_err-read_end c =
    let p = err_from_is_err_and c.from_residual-in_err-read_end.result c.from_residual-in_err-read_end.ensures.1 in
    rw (p.1, p.2) (past_steps (goal.at.returns-in_err-read_end c).After-rest-blocks_part
    (past_blocks (goal.at.returns-in_err-read_end c).After-rest-end (refused_by _ (sym c.read_end.ensures ∙ c.in_err-read_end.was))))

pub returns : goal.returns
returns c =
    past_steps (goal.at.returns c).After-rest-blocks_part
    (past_blocks (goal.at.returns c).After-rest-end (passed_by _ (sym c.read_end.ensures ∙ c.in_ok-read_end.was)))
