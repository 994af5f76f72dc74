-- `lines::count_flow` meets its contract. Assumes nothing.
use Rattle.std.proofs.Common.{◌≡◌, ◌∙◌, w64, to_z, of_z, ◌-ℤ◌, ◌*ℤ◌}
use Rattle.whole.proofs.Size.{same}
use Rattle.book.specs.Book.{flow_of, prices_of}
use Rattle.lines.specs.Counted.{FlowSure}
use Rattle.lines.specs.CountLaws.{rent_asks, rent_fits, rent_is, flow_carries, flow_counted}
use Rattle.lines.proofs.count_flow.Goals as goal
use Rattle.lines.proofs.count_flow.Goals.{After-flow-flow, After-price-from, After-price-to, Else-not-flow_sure, After-rent}

flow_is : (c : After-flow-flow) → let a = c.args in
    to_z w64 (of_z w64 c.flow-flow.result) ≡ flow_of a.framed.counts a.framed.clearing.now a.line a.period
flow_is c = same c.flow-flow.result c.flow-flow.type_inv ∙ c.flow-flow.ensures

from_is : (c : After-price-from) → let a = c.args in
    to_z w64 (of_z w64 c.price-from.result) ≡ prices_of a.framed.counts a.framed.clearing.now a.ends.from a.period
from_is c = same c.price-from.result c.price-from.type_inv ∙ c.price-from.ensures

to_is : (c : After-price-to) → let a = c.args in
    to_z w64 (of_z w64 c.price-to.result) ≡ prices_of a.framed.counts a.framed.clearing.now a.ends.to a.period
to_is c = same c.price-to.result c.price-to.type_inv ∙ c.price-to.ensures

sure : (c : Else-not-flow_sure) → let a = c.args in
    FlowSure a.forward a.back (to_z w64 (of_z w64 c.price-from.result)) (to_z w64 (of_z w64 c.price-to.result))
    (to_z w64 (of_z w64 c.flow-flow.result))
sure c = c.flow_sure.ensures c.if-not-flow_sure.false

pub rent-requires : goal.rent-requires
rent-requires c =
    let p = goal.at.rent-requires c in
    rent_asks c.requires (flow_is p.After-flow-flow) (from_is p.After-price-from) (to_is p.After-price-to) (sure p.Else-not-flow_sure)

added : (c : After-rent) → let a = c.args in
    let flow = to_z w64 (of_z w64 c.flow-flow.result) in
    to_z w64 (of_z w64 c.rent.result) ≡ flow *ℤ (to_z w64 (of_z w64 c.price-to.result) -ℤ to_z w64 (of_z w64 c.price-from.result))
added c = same c.rent.result c.rent.type_inv ∙ c.rent.ensures

pub overflow_add-sums : goal.overflow_add-sums
overflow_add-sums c =
    let p = goal.at.overflow_add-sums c in
    rent_fits c.requires (flow_is p.After-flow-flow) (from_is p.After-price-from) (to_is p.After-price-to) (sure p.Else-not-flow_sure)
    (added p.After-rent)

pub carry-requires : goal.carry-requires
carry-requires c =
    let p = goal.at.carry-requires c in
    flow_carries c.requires (flow_is p.After-flow-flow) (from_is p.After-price-from) (to_is p.After-price-to) (sure p.Else-not-flow_sure)

pub returns : goal.returns
returns c _ =
    let p = goal.at.returns c in
    let flow = flow_is p.After-flow-flow in
    let from = from_is p.After-price-from in
    let to = to_is p.After-price-to in
    let tested = sure p.Else-not-flow_sure in
    let rent = added p.After-rent in
    flow_counted c.requires flow from to tested rent (rw (rent_is c.requires flow from to tested rent)) c.carry.ensures
