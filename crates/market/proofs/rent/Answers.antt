-- `market::rent` meets its contract. Assumes nothing.
use Rattle.std.proofs.Common.{◌≤◌, arith, ◌≡◌, ap, ◌∙◌, ℤ, nat_abs, ◌-ℤ◌, ◌*ℤ◌, w64, SFits, to_z, of_z}
use Rattle.std.proofs.lemmas.Int.{to_z-of_z}
use Rattle.whole.proofs.Size.{abs--, abs-*-≤, fits_i64}
use Rattle.limits.specs.Limits.{most_flow, most_price}
use Rattle.market.proofs.rent.Goals as goal
use Rattle.market.proofs.rent.Goals.{Start}

module _ (to from : ℤ) (f : nat_abs from ≤ most_price) (t : nat_abs to ≤ most_price) where
  difference_fits : SFits w64 (to -ℤ from)
  difference_fits = fits_i64 (to -ℤ from) (omega (arith, abs-- to from))

  rent_fits : (flow : ℤ) → nat_abs flow ≤ most_flow → SFits w64 (flow *ℤ (to -ℤ from))
  rent_fits flow h = fits_i64 _ (omega (arith, abs-*-≤ flow (to -ℤ from) 1000000 2000000 h (omega (arith, abs-- to from))))

values : (c : Start) →
    to_z w64 (of_z w64 c.args.flow) *ℤ to_z w64 (of_z w64 (to_z w64 (of_z w64 c.args.to) -ℤ to_z w64 (of_z w64 c.args.from)))
    ≡ c.args.flow *ℤ (c.args.to -ℤ c.args.from)
values c =
    rw (
      to_z-of_z w64 c.args.flow c.ranges.flow,
      to_z-of_z w64 c.args.to c.ranges.to,
      to_z-of_z w64 c.args.from c.ranges.from,
      to_z-of_z w64 (c.args.to -ℤ c.args.from) (difference_fits c.args.to c.args.from c.requires.1.0 c.requires.1.1),
    )

product_fits : (c : Start) → SFits w64 (c.args.flow *ℤ (c.args.to -ℤ c.args.from))
product_fits c = rent_fits c.args.to c.args.from c.requires.1.0 c.requires.1.1 c.args.flow c.requires.0

pub returns : goal.returns
returns c = ap (λ (z : ℤ). to_z w64 (of_z w64 z)) (values (goal.at.returns c).Start) ∙ to_z-of_z w64 _ (product_fits (goal.at.returns c).Start)
