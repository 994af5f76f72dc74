-- Which row a refusal 7 names, as a sentence: a clearing's rows have one field, 0. Assumes nothing.
use Rattle.std.specs.Prelude.{ℕ, ◌*◌, ◌↔◌, List}
use Rattle.std.proofs.Common.{arith}
use Rattle.stages.specs.Stage.{Means, field_place}
use Rattle.sections.specs.Section.{ended}
use Rattle.sections.specs.Good.{OwnNumber, ended_other}
use Rattle.rows.specs.declared.Kind.TheVariants.{Prices, Flows, Volumes, Ratios}
use Rattle.reader.specs.Reader.{BadFrom}
use Rattle.reader.specs.Chain.{then_bad}
use Rattle.day.specs.declared.Counts.{Counts}
use Rattle.clearing.specs.Clearing.{flows_part, volumes_part, ratios_part, end_part, clearing_numbers, clearing_stages}
use Rattle.clearing.specs.Chain.{from_flows, from_volumes, from_ratios}
use Rattle.std.specs.Prelude.{Err}

-- the field of the row of the section s is the first of the clearing file that fails its test, for a day of these counts
abbrev pub ClearingField : Counts → List ℕ → ℕ → ℕ → ℕ → Type 0
ClearingField c clearing s row field =
    BadFrom s row field 1 Prices (c.zones * c.periods) (c.zones * c.periods) 0 0 clearing
    (BadFrom s row field 2 Flows (c.lines * c.periods) (c.lines * c.periods) 0 0 (flows_part clearing)
    (BadFrom s row field 3 Volumes c.steps c.steps 0 0 (volumes_part clearing)
    (BadFrom s row field 4 Ratios c.blocks c.blocks 0 0 (ratios_part clearing) ⊥)))

pub clearing_field : (c : Counts) (clearing : List ℕ) (s row field : ℕ) →
    Means (clearing_stages c clearing) (Err (7, field_place s row field)) ↔ ClearingField c clearing s row field
unfolding clearing_stages
clearing_field c clearing s row field =
    let p = c.zones * c.periods in
    let f = c.lines * c.periods in
    let own : OwnNumber clearing_numbers = (λ e. omega (arith, e), λ e. omega (arith, e)) in
    let past_end = ended_other 8 (end_part clearing) 7 (field_place s row field) (λ e. omega (arith, e)) in
    then_bad clearing_numbers 1 Prices p p 0 0 clearing own (from_flows c (flows_part clearing)) s row field
    (then_bad clearing_numbers 2 Flows f f 0 0 (flows_part clearing) own (from_volumes c (volumes_part clearing)) s row field
    (then_bad clearing_numbers 3 Volumes c.steps c.steps 0 0 (volumes_part clearing) own (from_ratios c (ratios_part clearing)) s row field
    (then_bad clearing_numbers 4 Ratios c.blocks c.blocks 0 0 (ratios_part clearing) own (ended 8 (end_part clearing)) s row field past_end)))
