-- `verdict::check` meets its contract. Assumes nothing.
use Rattle.std.specs.Prelude.{Option}
use Rattle.std.proofs.Common.{subst, ◌∙◌, length}
use Rattle.market.specs.declared.Totals.{Totals}
use Rattle.day.specs.declared.Counts.{Counts}
use Rattle.walk.specs.Walked.{Walked, Says}
use Rattle.verdict.specs.Steps.{past_all}
use Rattle.verdict.proofs.check.Goals as goal

pub returns-in-Some : goal.returns-in-Some
returns-in-Some c =
    let w : Walked c.args.day.now c.args.clearing.now c.in-Some.counts c.in-Some.totals c.walk_files.new.nets =
    subst (λ (r : Option (Counts × Totals)). Says c.args.day.now c.args.clearing.now r c.walk_files.new.nets) c.in-Some.is c.walk_files.ensures in
    record { said = c.from_room.ensures.said ∙ past_all w.of_files w.lawful (length c.args.room.now); left = c.from_room.ensures.left }
