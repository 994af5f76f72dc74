-- `totals::one_step` meets its contract. Assumes nothing.
use Rattle.std.proofs.Common.{ℕ, ◌<◌, ◌∙◌, List}
use Rattle.whole.proofs.Size.{same}
use Rattle.market.specs.Measures.{step_measured}
use Rattle.market.proofs.MeasureLaws.{step_small}
use Rattle.day.specs.declared.Counts.{Counts}
use Rattle.book.specs.Of.{OfFiles}
use Rattle.book.specs.Ranges.{placed, ranged}
use Rattle.totals.specs.Sums.{step_trade, Priceable}
use Rattle.totals.proofs.one_step.Goals as goal

step_priceable : {day clearing : List ℕ} {c : Counts} → OfFiles day clearing c → {i : ℕ} → i < c.steps →
    Priceable clearing c (step_trade day clearing i)
step_priceable o {i} l = record {
  of_clearing = o.of_clearing;
  zone_is = (placed o).step_zone i l;
  period_is = (placed o).step_period i l;
  small = step_small _ _ _ (placed o) (ranged o) i l;
}

pub priced-requires : goal.priced-requires
priced-requires c = rw c.step_trade.ensures (step_priceable c.args.book.reads c.requires)

pub returns : goal.returns
unfolding step_measured
returns c = same c.priced.result c.priced.type_inv ∙ c.priced.ensures ∙ rw c.step_trade.ensures
