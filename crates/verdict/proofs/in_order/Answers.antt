-- `verdict::in_order` meets its contract. Assumes nothing.
use Rattle.std.proofs.Common.{refl, sym, ap, ◌∙◌, length}
use Rattle.std.proofs.lemmas.Result.{err_from_is_err_and}
use Rattle.stages.specs.Stage.{fault_of}
use Rattle.verdict.specs.Steps.{at_the_files, past_the_files, good_of}
use Rattle.verdict.proofs.in_order.Goals as goal

pub invariant_of-framed : goal.invariant_of-framed
invariant_of-framed c =
    let o = good_of c.args.day.now c.args.clearing.now (sym c.in_ok-counts.was ∙ c.read_files.ensures.answer) in
    record { framed = record { of_day = o.of_day; of_clearing = o.of_clearing } }

pub invariant_of-from_rules : goal.invariant_of-from_rules
invariant_of-from_rules c =
    record { reads = good_of c.args.day.now c.args.clearing.now (sym c.in_ok-counts.was ∙ c.read_files.ensures.answer) }

pub returns-in_err-counts : goal.returns-in_err-counts
returns-in_err-counts c =
    let p = err_from_is_err_and c.from_residual.result c.from_residual.ensures.1 in
    let fault = ap fault_of (sym c.in_err-counts.was) ∙ c.read_files.ensures.numbered in
    rw (p.1, p.2) (record { said = at_the_files c.args.day.now c.args.clearing.now (length c.args.room.now) fault; left = refl })

pub returns : goal.returns
returns c =
    let clean = ap fault_of (sym c.in_ok-counts.was) ∙ c.read_files.ensures.numbered in
    record {
      said = c.from_rules.ensures.said ∙ past_the_files c.args.day.now c.args.clearing.now (length c.args.room.now) clean;
      left = c.from_rules.ensures.left;
    }
