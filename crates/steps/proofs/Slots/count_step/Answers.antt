-- `steps::Slots::count_step` meets its contract. Assumes nothing.
use Rattle.std.proofs.Common.{ℕ, ◌+◌, ◌*◌, ◌<◌, arith, ◌≡◌, sym, ap, subst, ◌∙◌, List, ℤ, pos, length, get_or, w64, to_z, of_z}
use Rattle.std.proofs.Math.Logic.{∥∥₁_elim}
use Rattle.std.proofs.Props.{props}
use Rattle.whole.proofs.Size.{same}
use Rattle.stages.specs.First.{eqb_is}
use Rattle.wire.specs.Bytes.{u32_at}
use Rattle.rows.specs.Rows.{step_price, step_quantity}
use Rattle.market.specs.declared.Step.{Step}
use Rattle.day.specs.Day.{steps_part}
use Rattle.book.specs.Book.{step_of, prices_of}
use Rattle.book.specs.Of.{price_cell}
use Rattle.steps.specs.Count.{Near, Room, Lies, lies, ready_by, counted_by}
use Rattle.steps.specs.Known.{Known, FourBytes, Placed, placed, placed_counted}
use Rattle.steps.proofs.Slots.count_step.Goals as goal
use Rattle.steps.proofs.Slots.count_step.Goals.{After-volume-volume}

-- the row's numbers, as the two files say them, and room for them
module _ (c : After-volume-volume) where
  abbrev day : List ℕ
  day = c.args.self.framed.day.now

  abbrev part : List ℕ
  part = steps_part day

  abbrev at : ℕ
  at = 2 + 12 * c.args.row

  abbrev step : Step
  step = step_of day c.args.row

  abbrev price : ℤ
  price = prices_of c.args.self.framed.counts c.args.self.framed.clearing.now step.zone step.period

  abbrev slot : ℕ
  slot = c.slot_of-slot.result

  part_is : c.steps_part-part.result.now ≡ part
  part_is = c.steps_part-part.ensures

  head_is : get_or c.args.self.heads.now slot 0 ≡ c.head_at-head.result
  head_is = (eqb_is _ _).0 (sym c.holds.ensures ∙ c.if-not-holds.false)

  limit_at : to_z w64 (of_z w64 c.i32_at-limit.result) ≡ step_price part at
  limit_at = same c.i32_at-limit.result c.i32_at-limit.type_inv ∙ c.i32_at-limit.ensures ∙ ap (λ (p : List ℕ). step_price p at) part_is

  quantity_at : c.u32_at-quantity.result ≡ step_quantity part at
  quantity_at = c.u32_at-quantity.ensures ∙ ap (λ (p : List ℕ). step_quantity p at) part_is

  limit_is : to_z w64 (of_z w64 c.i32_at-limit.result) ≡ step.limit
  unfolding step_of
  limit_is = limit_at

  quantity_is : c.u32_at-quantity.result ≡ step.quantity
  unfolding step_of
  quantity_is = quantity_at

  module _ (known : Known c.args.self.framed.counts c.args.self.framed.clearing.now c.args.self.heads.now c.args.self.prices.now c.args.self.places.now) where
    here : Placed c.args.self.framed.counts day c.args.self.framed.clearing.now c.args.row slot (get_or c.args.self.prices.now slot (pos 0)) (get_or c.args.self.places.now slot 0)
    here =
        let f = c.head_at-head.ensures in
        placed c.args.self.framed.counts day c.args.self.framed.clearing.now c.args.row c.requires.0.framed.of_clearing.limits
        (subst (λ (p : List ℕ). FourBytes p at) part_is f.1) (head_is ∙ f.0 ∙ ap (λ (p : List ℕ). u32_at p at) part_is)
        (known.each slot c.slot_of-slot.ensures (omega (arith, head_is, f.0, f.1.first, f.1.second, f.1.third, f.1.fourth)))
        limit_at quantity_at (sym c.numbers_ok.ensures ∙ c.if-not-numbers_ok.false)

    lies_so : Lies c.args.self.framed.counts day c.args.row
    lies_so = lies c.args.self.framed.counts day c.args.row here.row

    price_is : to_z w64 (of_z w64 c.price-price.result) ≡ price
    price_is = same c.price-price.result c.price-price.type_inv ∙ c.price-price.ensures ∙ here.price_is

    cell_is : c.place-cell.result ≡ step.zone * c.args.self.framed.counts.periods + step.period
    cell_is = c.place-cell.ensures ∙ here.place_is

    inside : step.zone * c.args.self.framed.counts.periods + step.period < length c.args.nets.now
    inside =
        let long : length c.args.nets.now ≡ 200 = omega arith in
        rw long (price_cell c.requires.0.framed.of_clearing (lies_so.zone, lies_so.period))

    ready : Near step.limit price step.quantity × Room (step.zone * c.args.self.framed.counts.periods + step.period) c.args.nets.now c.args.sums.now
    ready =
        let r = c.requires.0 in (
          record { limit_small = lies_so.limit; price_small = r.prices step.zone step.period lies_so.zone lies_so.period; quantity_small = lies_so.quantity },
          record {
            cell_is = inside;
            cell_within = r.nets_within step.zone step.period lies_so.zone lies_so.period;
            sums_within = r.sums_within;
          },
        )

pub count_at-requires : goal.count_at-requires
count_at-requires c =
    let p = (goal.at.count_at-requires c).After-volume-volume in
    ∥∥₁_elim c.args.self.known (hlevel props)
    (λ known. ready_by (limit_is p) (price_is p known) (quantity_is p) (cell_is p known) (ready p known))

pub returns : goal.returns
returns c e =
    let p = (goal.at.returns c).After-volume-volume in
    let a = c.args in
    let f = a.self.framed in
    ∥∥₁_elim a.self.known (hlevel props)
    (λ known. placed_counted f.counts f.day.now f.clearing.now a.row (here p known) (inside p known)
    (counted_by (limit_is p) (price_is p known) (quantity_is p) (cell_is p known) c.volume-volume.ensures (c.count_at.ensures e)))
