-- The stages of a clearing file from each section on, as the readers hand on what is left of the file. Assumes nothing.
use Rattle.std.specs.Prelude.{ℕ, ◌*◌, List, ◌++◌, ◌≡◌}
use Rattle.std.proofs.Common.{◌∙◌}
use Rattle.stages.specs.Stage.{Stage, first_fault}
use Rattle.stages.proofs.StageLaws.{fault-++, means}
use Rattle.sections.specs.Section.{after, ended}
use Rattle.rows.specs.Rows.{row_size}
use Rattle.rows.specs.declared.Kind.TheVariants.{Flows, Volumes, Ratios}
use Rattle.day.specs.declared.Counts.{Counts}
use Rattle.day.specs.Day.{counts, day_stages, day_file}
use Rattle.day.specs.Good.{day_clean, day_bad, good_counts}
use Rattle.clearing.specs.Clearing.{clearing_section, clearing_stages, files}
use Rattle.std.specs.Prelude.{Result, Ok, Err}
use Rattle.stages.specs.declared.Refusal.{Refusal}
use Rattle.stages.specs.Stage.{clean, judged}

abbrev pub from_ratios : Counts → List ℕ → List Stage
from_ratios c part = clearing_section 4 Ratios c.blocks part ++ ended 8 (after (row_size Ratios 0) part)

abbrev pub from_volumes : Counts → List ℕ → List Stage
from_volumes c part = clearing_section 3 Volumes c.steps part ++ from_ratios c (after (row_size Volumes 0) part)

abbrev pub from_flows : Counts → List ℕ → List Stage
from_flows c part = clearing_section 2 Flows (c.lines * c.periods) part ++ from_volumes c (after (row_size Flows 0) part)

-- ---- the day file before the clearing file

module _ (day clearing : List ℕ) where
  -- a fault of the day file is that of both
  pub day_first : {r : Refusal} → day_file day ≡ Err r → Err r ≡ files day clearing
  day_first {r} e =
      let f : first_fault (day_stages day) ≡ Err r = (means (day_stages day) (Err r)).1 ((day_bad day r.0 r.1).0 e) in
      rw (fault-++ (day_stages day) (clearing_stages (counts day) clearing), f)

  -- else the clearing file's is
  pub then_clearing : {c : Counts} {r : Result Counts Refusal} → day_file day ≡ Ok c → r ≡ judged c (clearing_stages c clearing) → r ≡ files day clearing
  then_clearing {c} e q =
      let g = good_counts day c e in
      let f : first_fault (day_stages day) ≡ clean = (means (day_stages day) clean).1 ((day_clean day).1 g.1) in
      q ∙ rw (← g.0, fault-++ (day_stages day) (clearing_stages (counts day) clearing), f)
