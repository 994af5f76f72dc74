-- `steps::know` meets its contract. Assumes nothing.
use Rattle.std.proofs.Common.{◌+◌, ◌*◌, ◌<◌, arith, ◌≡◌, refl, ◌∙◌, w64, to_z, of_z}
use Rattle.whole.proofs.Size.{same}
use Rattle.book.specs.Book.{prices_of}
use Rattle.steps.specs.Known.{Known, more_known, sell_head, buy_head}
use Rattle.steps.proofs.know.Goals as goal
use Rattle.steps.proofs.know.Goals.{After-put}

price_is : (c : After-put) → to_z w64 (of_z w64 c.price-price.result) ≡ prices_of c.args.framed.counts c.args.framed.clearing.now c.args.zone c.args.period
price_is c = same c.price-price.result c.price-price.type_inv ∙ c.price-price.ensures

-- after the first of the two
sells_known : (c : After-put) → Known c.args.framed.counts c.args.framed.clearing.now c.put.new.heads c.put.new.prices c.put.new.places
sells_known c =
    let e = c.put.ensures in
    let limits = c.args.framed.framed.of_clearing.limits in
    let z = c.requires.here.0 in
    let h = c.requires.here.1 in
    let l : c.args.period + 32 * c.args.zone < 256 = omega (arith, z, h, limits.zones_most, limits.periods_most) in
    rw (e.heads_after, e.prices_after, e.places_after)
    (more_known c.requires.known (omega (arith, l)) (sell_head z h l refl (price_is c) (c.small-place.ensures ∙ c.cell.ensures)))

pub returns : goal.returns
returns c =
    let p = (goal.at.returns c).After-put in
    let e = c.put-2.ensures in
    let limits = c.args.framed.framed.of_clearing.limits in
    let z = c.requires.here.0 in
    let h = c.requires.here.1 in
    rw (e.heads_after, e.prices_after, e.places_after)
    (more_known (sells_known p) (omega (arith, z, h, limits.zones_most, limits.periods_most))
    (buy_head z h (omega arith) refl (price_is p) (c.small-place.ensures ∙ c.cell.ensures)))
