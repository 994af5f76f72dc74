-- `steps::count_bought` meets its contract. Assumes nothing.
use Rattle.std.proofs.Common.{arith, ◌≡◌, sym, ◌∙◌, true, ◌&&◌, ◌≤◌, leb, w64, to_z, of_z, pos, neg_ℤ, nat_abs}
use Rattle.std.proofs.lemmas.Int.{to_z-of_z}
use Rattle.whole.proofs.Size.{same}
use Rattle.whole.specs.Ring.{given, linear}
use Rattle.stages.specs.First.{both, leb_is}
use Rattle.limits.specs.Limits.{most_volume}
use Rattle.cells.specs.Gains.{more_fits, more_is}
use Rattle.market.specs.Rules.{full_or_none}
use Rattle.market.specs.Measures.{gain}
use Rattle.steps.specs.Count.{none_bought, gain_size}
use Rattle.steps.proofs.count_bought.Goals as goal
use Rattle.steps.proofs.count_bought.Goals.{Else-not-taken_ok, After-gain, After-negative}

-- it gets less than it asks
pub returns-then-limit-price : goal.returns-then-limit-price
returns-then-limit-price c e =
    let a = c.args in
    none_bought a.limit a.price a.quantity a.volume a.cell a.nets.now a.sums.now
    (given (rw (to_z-of_z w64 a.limit c.ranges.limit, to_z-of_z w64 a.price c.ranges.price) at c.if-limit-price.true) (simp linear (omega arith)))
    e

-- the tests that hold behind the first one
kept : (c : Else-not-taken_ok) → let a = c.args in (full_or_none a.price a.limit a.quantity a.volume && leb a.volume a.quantity) ≡ true
kept c =
    let a = c.args in
    rw (to_z-of_z w64 a.limit c.ranges.limit, to_z-of_z w64 a.price c.ranges.price) at (sym c.taken_ok.ensures ∙ c.if-not-taken_ok.false)

volume_small : (c : Else-not-taken_ok) → c.args.volume ≤ most_volume
volume_small c =
    let a = c.args in
    omega (
      arith,
      (leb_is a.volume a.quantity).0 ((both (full_or_none a.price a.limit a.quantity a.volume) (leb a.volume a.quantity)).0 (kept c)).1,
      c.requires.0.quantity_small,
    )

gain_is : (c : After-gain) → to_z w64 (of_z w64 c.gain.result) ≡ gain c.args.limit c.args.price c.args.volume
gain_is c =
    let a = c.args in
    same c.gain.result c.gain.type_inv ∙ c.gain.ensures ∙ rw (to_z-of_z w64 a.limit c.ranges.limit, to_z-of_z w64 a.price c.ranges.price)

gain_near : (c : After-gain) → nat_abs (gain c.args.limit c.args.price c.args.volume) ≤ 2000000000000
gain_near c =
    let a = c.args in
    let near = c.requires.0 in
    gain_size a.limit a.price a.volume near.limit_small near.price_small (volume_small (goal.at.After-gain c).Else-not-taken_ok)

pub overflow_add-sums : goal.overflow_add-sums
overflow_add-sums c =
    let p = (goal.at.overflow_add-sums c).After-gain in
    rw (gain_is p) (more_fits c.args.sums.now.buyers _ c.requires.1.sums_within.buyers (gain_near p) (omega arith))

pub overflow_add-sums-2 : goal.overflow_add-sums-2
overflow_add-sums-2 c =
    let p = goal.at.overflow_add-sums-2 c in
    rw (same c.wide.result c.wide.type_inv, c.wide.ensures)
    (more_fits c.args.sums.now.traded _ c.requires.1.sums_within.traded (volume_small p.Else-not-taken_ok) (omega arith))

taken_away : (c : After-negative) → to_z w64 (of_z w64 c.negative.result) ≡ neg_ℤ (pos c.args.volume)
taken_away c =
    let wide = c.wide-2 in
    same c.negative.result c.negative.type_inv ∙ c.negative.ensures ∙ rw (same wide.result wide.type_inv, wide.ensures)

pub returns : goal.returns
returns c _ =
    let p = goal.at.returns c in
    let held = c.requires.1.sums_within in
    record {
      kept = kept p.Else-not-taken_ok;
      nets_is = c.add_at.ensures ∙ rw (taken_away p.After-negative);
      sums_is = rw (
        gain_is p.After-gain,
        more_is c.args.sums.now.buyers _ held.buyers (gain_near p.After-gain) (omega arith),
        same c.wide.result c.wide.type_inv,
        c.wide.ensures,
        more_is c.args.sums.now.traded (pos c.args.volume) held.traded (volume_small p.Else-not-taken_ok) (omega arith),
      );
    }
