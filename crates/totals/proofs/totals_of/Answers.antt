-- `totals::totals_of` meets its contract. Assumes nothing.
use Rattle.std.proofs.Common.{◌≡◌, ◌∙◌, ℤ}
use Rattle.whole.proofs.Size.{same}
use Rattle.market.specs.Market.{Day, Choice, Prices, order_value, buyer_surplus, seller_surplus, rent, traded_volume, shortfall, totals}
use Rattle.market.proofs.MeasureLaws.{value_is, buyers_is, sellers_is, traded_is}
use Rattle.book.specs.Book.{day_of, prices_of, choice_of}
use Rattle.totals.proofs.totals_of.Goals as goal

made : (d : Day) (p : Prices) (c : Choice) {v b s r t f : ℤ} → v ≡ order_value d c → b ≡ buyer_surplus d p c → s ≡ seller_surplus d p c →
    r ≡ rent d p c → t ≡ traded_volume d c → f ≡ shortfall d p c →
    record { value = v; buyers = b; sellers = s; rent = r; traded = t; shortfall = f } ≡ totals d p c
unfolding totals
made d p c v b s r t f = rw (v, b, s, r, t, f)

pub returns : goal.returns
unfolding rent shortfall
returns c =
    let a = c.args in
    let d = day_of a.book.framed.counts a.book.framed.day.now in
    let p = prices_of a.book.framed.counts a.book.framed.clearing.now in
    let k = choice_of a.book.framed.counts a.book.framed.clearing.now in
    made
    d
    p
    k
    (same c.everything.result c.everything.type_inv ∙ c.everything.ensures ∙ value_is d p k)
    (same c.everything-2.result c.everything-2.type_inv ∙ c.everything-2.ensures ∙ buyers_is d p k)
    (same c.everything-3.result c.everything-3.type_inv ∙ c.everything-3.ensures ∙ sellers_is d p k)
    (same c.rent.result c.rent.type_inv ∙ c.rent.ensures)
    (same c.everything-4.result c.everything-4.type_inv ∙ c.everything-4.ensures ∙ traded_is d p k)
    (same c.shortfall.result c.shortfall.type_inv ∙ c.shortfall.ensures)
