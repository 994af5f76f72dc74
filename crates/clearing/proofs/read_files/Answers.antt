-- `clearing::read_files` meets its contract: the day file before the clearing file. Assumes nothing.
use Rattle.std.proofs.Common.{sym, ◌∙◌, subst}
use Rattle.std.proofs.lemmas.Result.{err_from_is_err_and}
use Rattle.day.specs.Good.{InLimits, in_limits, good_counts}
use Rattle.clearing.specs.Good.{files_fault}
use Rattle.clearing.specs.Chain.{day_first, then_clearing}
use Rattle.clearing.proofs.read_files.Goals as goal

pub read_clearing-requires : goal.read_clearing-requires
read_clearing-requires c =
    let day = c.args.day.now in
    let g = good_counts day c.in_ok-counts.counts (sym c.read_first.ensures ∙ c.in_ok-counts.was) in
    subst InLimits g.0 (in_limits g.1)

pub returns-in_err-counts : goal.returns-in_err-counts
returns-in_err-counts c =
    let a = c.args in
    let p = err_from_is_err_and c.from_residual.result c.from_residual.ensures.1 in
    let e = day_first a.day.now a.clearing.now (sym c.read_first.ensures ∙ c.in_err-counts.was) in
    rw (p.1, p.2) (record { answer = e; numbered = files_fault a.day.now a.clearing.now e })

pub returns : goal.returns
returns c =
    let a = c.args in
    let e = then_clearing a.day.now a.clearing.now (sym c.read_first.ensures ∙ c.in_ok-counts.was) c.read_clearing.ensures in
    record { answer = e; numbered = files_fault a.day.now a.clearing.now e }
