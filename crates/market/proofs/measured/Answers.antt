-- `market::measured` meets its contract. Assumes nothing.
use Rattle.std.proofs.Common.{◌≡◌, sym, ap, ℤ, w64}
use Rattle.std.proofs.lemmas.Int.{to_z-of_z}
use Rattle.whole.proofs.Size.{same}
use Rattle.market.specs.Measures.{measured, by_side, sold, bought}
use Rattle.market.specs.declared.Side.{Side}
use Rattle.market.specs.declared.Trade.{Trade}
use Rattle.market.specs.declared.Measure.{Measure}
use Rattle.market.proofs.measured.Goals as goal

by_side_lem : (m : Measure) (price : ℤ) (t : Trade) {s : Side} → t.side ≡ s → measured m price t ≡ by_side s (sold m price t) (bought m price t)
unfolding measured
by_side_lem m price t e = ap (λ (s : Side). by_side s (sold m price t) (bought m price t)) e

pub returns-in-Sell : goal.returns-in-Sell
returns-in-Sell c =
    rw (same c.sold.result c.sold.type_inv, c.sold.ensures, to_z-of_z w64 c.args.price c.ranges.price)
    (sym (by_side_lem c.args.measure c.args.price c.args.trade c.in-Sell.is))

pub returns-in-Buy : goal.returns-in-Buy
returns-in-Buy c =
    rw (same c.bought.result c.bought.type_inv, c.bought.ensures, to_z-of_z w64 c.args.price c.ranges.price)
    (sym (by_side_lem c.args.measure c.args.price c.args.trade c.in-Buy.is))
