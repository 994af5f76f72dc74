-- `lines::carry` meets its contract. Assumes nothing.
use Rattle.std.proofs.Common.{arith, length, ◌≡◌, ap, ◌∙◌, neg_ℤ, w64}
use Rattle.std.proofs.lemmas.Int.{to_z-of_z}
use Rattle.whole.proofs.Size.{same}
use Rattle.lines.specs.CountLaws.{both_gained}
use Rattle.lines.proofs.carry.Goals as goal

pub returns : goal.returns
returns c =
    let long : length c.args.flows.now ≡ 200 = omega arith in
    let flow = to_z-of_z w64 c.args.flow c.ranges.flow in
    let opposite = same c.negative-opposite.result c.negative-opposite.type_inv ∙ c.negative-opposite.ensures ∙ ap neg_ℤ flow in
    both_gained c.requires long c.cell-leaving.ensures flow c.add_at.ensures c.cell-entering.ensures opposite c.add_at-2.ensures
