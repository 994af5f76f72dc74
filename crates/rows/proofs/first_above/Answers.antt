-- `rows::first_above` meets its contract: the volumes before k are not above. Assumes nothing.
use Rattle.std.proofs.lemmas.Bool.{lt-leb}
use Rattle.std.proofs.Common.{sym, ap, ◌∙◌, ℕ, leb}
use Rattle.stages.proofs.FirstLaws.{stop, done}
use Rattle.limits.specs.Fields.{counted_on, counted, counted_none}
use Rattle.rows.proofs.first_above.Goals as goal

pub returns-then-most-u32_at : goal.returns-then-most-u32_at
returns-then-most-u32_at c =
    let a = c.args in
    let fails = ap (λ (v : ℕ). leb v a.most) (sym c.u32_at.ensures) ∙ lt-leb _ _ c.if-most-u32_at.true in
    sym (counted a.first c.loop-k.k)
    ∙ ap (counted_on a.first) (stop c.loop-k.invariant.1 fails c.loop-k-test.true)

pub returns : goal.returns
returns c =
    let first = c.args.first in
    sym (counted_none first) ∙ ap (counted_on first) (done c.loop-k.invariant.1 c.loop-k.invariant.0 c.loop-k-test.false)
