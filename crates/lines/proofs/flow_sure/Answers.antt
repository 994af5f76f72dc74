-- `lines::flow_sure` meets its contract. Assumes nothing.
use Rattle.std.proofs.Common.{sym, ap, ◌∙◌, neg_ℤ, w64}
use Rattle.std.proofs.lemmas.Int.{to_z-of_z}
use Rattle.whole.proofs.Size.{same}
use Rattle.stages.specs.First.{both, leb_is}
use Rattle.lines.proofs.flow_sure.Goals as goal

pub returns : goal.returns
returns c e =
    let a = c.args in
    let fits = c.ranges in
    let flow = to_z-of_z w64 a.flow fits.flow in
    let most = same c.wide-most.result c.wide-most.type_inv ∙ c.wide-most.ensures in
    let least = same c.negative-least.result c.negative-least.type_inv ∙ c.negative-least.ensures
    ∙ ap neg_ℤ (same c.wide.result c.wide.type_inv ∙ c.wide.ensures) in
    let kept = simp (both, leb_is) at c.if-not-forward-back.false in
    record {
      forward_is = kept.0;
      back_is = kept.1;
      between = rw (flow, most, least) at (sym c.between.ensures ∙ c.if-not-between.false);
      full = rw (flow, most, least, to_z-of_z w64 a.from fits.from, to_z-of_z w64 a.to fits.to) at (c.full.ensures e);
    }
