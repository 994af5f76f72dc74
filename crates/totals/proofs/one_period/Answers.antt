-- `totals::one_period` meets its contract. Assumes nothing.
use Rattle.std.proofs.Common.{ℕ, ◌<◌, ◌≤◌, ◌≡◌, ◌∙◌, List}
use Rattle.limits.specs.Limits.{most_ratio}
use Rattle.market.proofs.MeasureLaws.{block_small}
use Rattle.day.specs.declared.Counts.{Counts}
use Rattle.book.specs.Of.{OfFiles}
use Rattle.book.specs.Ranges.{placed, ranged}
use Rattle.totals.specs.Sums.{block_trade, Priceable}
use Rattle.totals.proofs.one_period.Goals as goal
use Rattle.totals.proofs.one_period.Goals.{After-block_trade}

block_priceable : {day clearing : List ℕ} {c : Counts} → OfFiles day clearing c → {k period : ℕ} → k < c.blocks → period < c.periods →
    {ratio : ℕ} → ratio ≤ most_ratio → Priceable clearing c (block_trade c day clearing k period ratio)
block_priceable o {k} {period} l h {ratio} r = record {
  of_clearing = o.of_clearing;
  zone_is = (placed o).block_zone k l;
  period_is = h;
  small = block_small _ _ _ (placed o) (ranged o) k period ratio l h r;
}

pub block_volume-requires : goal.block_volume-requires
block_volume-requires c =
    (c.requires.1.1, rw c.quantity.ensures ((placed c.args.book.reads).block_quantity _ _ c.requires.0 c.requires.1.0))

trade : (c : After-block_trade) → let a = c.args in
    c.block_trade.result ≡ block_trade a.book.framed.counts a.book.framed.day.now a.book.framed.clearing.now a.row a.period a.ratio
trade c =
    c.block_trade.ensures
    ∙ rw (c.block_volume.ensures, c.quantity.ensures, c.block.ensures)

pub priced-requires : goal.priced-requires
priced-requires c =
    rw (trade (goal.at.priced-requires c).After-block_trade) (block_priceable c.args.book.reads c.requires.0 c.requires.1.0 c.requires.1.1)
