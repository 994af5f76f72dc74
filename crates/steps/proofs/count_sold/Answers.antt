-- `steps::count_sold` meets its contract. Assumes nothing.
use Rattle.std.proofs.Common.{arith, ◌≡◌, sym, ◌∙◌, true, ◌&&◌, ◌≤◌, leb, w64, to_z, of_z, nat_abs}
use Rattle.std.proofs.lemmas.Int.{to_z-of_z}
use Rattle.whole.proofs.Size.{same}
use Rattle.whole.specs.Ring.{given, linear}
use Rattle.stages.specs.First.{both, leb_is}
use Rattle.limits.specs.Limits.{most_volume}
use Rattle.cells.specs.Gains.{more_fits, more_is}
use Rattle.market.specs.Rules.{full_or_none}
use Rattle.market.specs.Measures.{gain}
use Rattle.steps.specs.Count.{none_sold, gain_size}
use Rattle.steps.proofs.count_sold.Goals as goal
use Rattle.steps.proofs.count_sold.Goals.{Else-not-taken_ok, After-gain}

-- it gets less than it asks
pub returns-then-price-limit : goal.returns-then-price-limit
returns-then-price-limit c e =
    let a = c.args in
    none_sold a.limit a.price a.quantity a.volume a.cell a.nets.now a.sums.now
    (given (rw (to_z-of_z w64 a.price c.ranges.price, to_z-of_z w64 a.limit c.ranges.limit) at c.if-price-limit.true) (simp linear (omega arith)))
    e

-- the tests that hold behind the first one
kept : (c : Else-not-taken_ok) → let a = c.args in (full_or_none a.limit a.price a.quantity a.volume && leb a.volume a.quantity) ≡ true
kept c =
    let a = c.args in
    rw (to_z-of_z w64 a.limit c.ranges.limit, to_z-of_z w64 a.price c.ranges.price) at (sym c.taken_ok.ensures ∙ c.if-not-taken_ok.false)

volume_small : (c : Else-not-taken_ok) → c.args.volume ≤ most_volume
volume_small c =
    let a = c.args in
    omega (
      arith,
      (leb_is a.volume a.quantity).0 ((both (full_or_none a.limit a.price a.quantity a.volume) (leb a.volume a.quantity)).0 (kept c)).1,
      c.requires.0.quantity_small,
    )

gain_is : (c : After-gain) → to_z w64 (of_z w64 c.gain.result) ≡ gain c.args.price c.args.limit c.args.volume
gain_is c =
    let a = c.args in
    same c.gain.result c.gain.type_inv ∙ c.gain.ensures ∙ rw (to_z-of_z w64 a.limit c.ranges.limit, to_z-of_z w64 a.price c.ranges.price)

gain_near : (c : After-gain) → nat_abs (gain c.args.price c.args.limit c.args.volume) ≤ 2000000000000
gain_near c =
    let a = c.args in
    let near = c.requires.0 in
    gain_size a.price a.limit a.volume near.price_small near.limit_small (volume_small (goal.at.After-gain c).Else-not-taken_ok)

pub overflow_add-sums : goal.overflow_add-sums
overflow_add-sums c =
    let p = (goal.at.overflow_add-sums c).After-gain in
    rw (gain_is p) (more_fits c.args.sums.now.sellers _ c.requires.1.sums_within.sellers (gain_near p) (omega arith))

pub returns : goal.returns
returns c _ =
    let p = goal.at.returns c in
    let held = c.requires.1.sums_within in
    record {
      kept = kept p.Else-not-taken_ok;
      nets_is = c.add_at.ensures ∙ rw (same c.wide.result c.wide.type_inv, c.wide.ensures);
      sums_is = rw (gain_is p.After-gain, more_is c.args.sums.now.sellers _ held.sellers (gain_near p.After-gain) (omega arith));
    }
