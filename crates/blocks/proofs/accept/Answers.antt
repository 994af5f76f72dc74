-- `blocks::accept` meets its contract: it gives to the sums the surplus of what is accepted, and what is left of it. Assumes nothing.
use Rattle.std.proofs.Common.{◌*◌, ◌≤◌, mul-le-mul, arith, ◌≡◌, ◌∙◌, pos, nat_abs, ◌-ℤ◌, w64, to_z, of_z}
use Rattle.std.proofs.Math.IntN.{+ℤ_idl, +ℤ_idr}
use Rattle.std.proofs.lemmas.Int.{to_z-of_z}
use Rattle.whole.specs.Ring.{given, linear}
use Rattle.whole.proofs.Size.{sum_within, same}
use Rattle.cells.specs.Gains.{SumsGained, gained_then, within_gained, within_more}
use Rattle.limits.specs.Limits.{most_periods, most_volume}
use Rattle.rows.specs.Rows.{block_quantity}
use Rattle.blocks.specs.Block.{shared, part_of}
use Rattle.blocks.specs.Gather.{volume_most, volumes_size, shared_size, part_size, all_whole}
use Rattle.blocks.proofs.accept.Goals as goal
use Rattle.blocks.proofs.accept.Goals.{After-add_volumes-volumes, After-part_of-accepted, After-share, After-less}

volumes_small : (c : After-add_volumes-volumes) → c.add_volumes-volumes.result ≤ 25000000
volumes_small c =
    volumes_size c.add_volumes-volumes.ensures c.requires.ready.periods_most (λ h l. volume_most c.requires.ready.ratio_is (c.requires.ready.quantities h l))

pub overflow_mul-volumes : goal.overflow_mul-volumes
overflow_mul-volumes c = record { fits = omega (arith, volumes_small (goal.at.overflow_mul-volumes c).After-add_volumes-volumes) }

pub overflow_mul-all : goal.overflow_mul-all
overflow_mul-all c =
    let all : c.args.all ≤ 25000000 = rw (← c.requires.all_value.0) at (sum_within c.args.counts.periods most_periods (λ h. pos (block_quantity c.args.part.now c.args.at h)) most_volume c.requires.ready.periods_most c.requires.ready.quantities) in
    let h : c.args.all * c.args.ratio ≤ 25000000 * 1000 = mul-le-mul {n₂ = 25000000} {m₂ = 1000} all c.requires.ready.ratio_is in
    record { fits = rw c.from.ensures (omega arith) }

-- the surplus of what is accepted
accepted : (c : After-part_of-accepted) → to_z w64 (of_z w64 c.part_of-accepted.result) ≡ part_of c.args.surplus c.args.ratio
accepted c =
    same c.part_of-accepted.result c.part_of-accepted.type_inv ∙ c.part_of-accepted.ensures
    ∙ rw (to_z-of_z w64 c.args.surplus c.ranges.surplus)

part_small : (c : After-part_of-accepted) → nat_abs (part_of c.args.surplus c.args.ratio) ≤ 50000000000000
part_small c = part_size c.args.surplus c.args.ratio c.requires.all_value.1 c.requires.ready.ratio_is

pub share-requires-clause-accepted_bound : goal.share-requires-clause-accepted_bound
share-requires-clause-accepted_bound c =
    let a = (goal.at.share-requires-clause-accepted_bound c).After-part_of-accepted in
    (rw (accepted a) (part_small a), omega (arith, volumes_small (goal.at.share-requires-clause-accepted_bound c).After-add_volumes-volumes))

-- what is shared out
given_out : (c : After-share) → SumsGained (shared c.args.side (part_of c.args.surplus c.args.ratio) (pos c.add_volumes-volumes.result)) c.args.sums.now c.share.new.sums
given_out c = rw (← accepted (goal.at.After-share c).After-part_of-accepted) c.share.ensures

-- what is left
left : (c : After-less) → to_z w64 (of_z w64 c.less.result) ≡ c.args.surplus -ℤ part_of c.args.surplus c.args.ratio
left c =
    same c.less.result c.less.type_inv ∙ c.less.ensures
    ∙ rw (to_z-of_z w64 c.args.surplus c.ranges.surplus, accepted (goal.at.After-less c).After-part_of-accepted)

pub miss-requires-clause-sums_within : goal.miss-requires-clause-sums_within
miss-requires-clause-sums_within c =
    let p = goal.at.miss-requires-clause-sums_within c in
    let volumes = volumes_small p.After-add_volumes-volumes in
    within_more
    (within_gained (given_out p.After-share) c.requires.sums_within
    (shared_size c.args.side _ (pos c.add_volumes-volumes.result) (part_small p.After-part_of-accepted) (omega (arith, volumes))))
    (omega arith)

pub returns : goal.returns
returns c _ = record {
  gains = given (rw (to_z-of_z w64 c.args.surplus c.ranges.surplus) at c.if-surplus-lt0.false) (simp linear (omega arith));
  whole = all_whole c.args.counts.periods c.args.ratio c.args.all c.add_volumes-volumes.result (block_quantity c.args.part.now c.args.at)
      c.requires.all_value.0 c.add_volumes-volumes.ensures.volumes_are (rw c.from.ensures at c.if-volumes-all.false);
  nets = c.add_volumes-volumes.ensures.nets;
  sums = rw (← c.add_volumes-volumes.ensures.volumes_are, ← left (goal.at.returns c).After-less)
      (simp (+ℤ_idr, +ℤ_idl) at (gained_then (given_out (goal.at.returns c).After-share) c.miss.ensures));
}
