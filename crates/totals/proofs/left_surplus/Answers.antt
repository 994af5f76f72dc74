-- `totals::left_surplus` meets its contract. Assumes nothing.
use Rattle.std.proofs.Common.{◌≡◌, sym, subst, ◌∙◌, ◌-ℤ◌, w64, SFits, to_z, of_z, arith}
use Rattle.whole.proofs.Size.{same, fits_i64}
use Rattle.market.proofs.MeasureLaws.{left_is, left_size}
use Rattle.book.specs.Book.{day_of, prices_of, choice_of}
use Rattle.book.specs.Ranges.{placed, ranged}
use Rattle.totals.specs.Sums.{left_surplus}
use Rattle.totals.proofs.left_surplus.Goals as goal
use Rattle.totals.proofs.left_surplus.Goals.{After-one_block-accepted}

left : (c : After-one_block-accepted) → let a = c.args in
    to_z w64 (of_z w64 c.whole_surplus-whole.result) -ℤ to_z w64 (of_z w64 c.one_block-accepted.result)
    ≡ left_surplus a.book.framed.counts a.book.framed.day.now a.book.framed.clearing.now a.row
left c =
    let whole = c.whole_surplus-whole in
    let accepted = c.one_block-accepted in
    let a = c.args in
    rw (same whole.result whole.type_inv, whole.ensures, same accepted.result accepted.type_inv, accepted.ensures)
    (sym (left_is (day_of a.book.framed.counts a.book.framed.day.now) (prices_of a.book.framed.counts a.book.framed.clearing.now) (choice_of a.book.framed.counts a.book.framed.clearing.now) a.row))

pub less-requires : goal.less-requires
less-requires c =
    let size = left_size _ _ _ (placed c.args.book.reads) (ranged c.args.book.reads) c.args.row c.requires in
    subst (SFits w64) (sym (left (goal.at.less-requires c).After-one_block-accepted)) (fits_i64 _ (omega (arith, size)))

pub returns : goal.returns
returns c = same c.less.result c.less.type_inv ∙ c.less.ensures ∙ left (goal.at.returns c).After-one_block-accepted
