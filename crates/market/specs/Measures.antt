-- What is counted of one trade at its price, and of a line, as the code counts it. Assumes nothing.
use Rattle.std.specs.Prelude.{ℕ, ◌≤◌, ℤ, pos, neg_ℤ, nat_abs, ◌-ℤ◌, ◌*ℤ◌}
use Rattle.limits.specs.Limits.{most_price, most_volume}
use Rattle.whole.specs.Whole.{sum, at}
use Rattle.market.specs.Market.{Day, Choice, Prices, block_volume, step_trade, block_trade, volume_at}
use Rattle.market.specs.declared.Side.{Side}
use Rattle.market.specs.declared.Side.TheVariants.{Sell, Buy}
use Rattle.market.specs.declared.Trade.{Trade}
use Rattle.market.specs.declared.Measure.{Measure}
use Rattle.market.specs.declared.Measure.TheVariants.{Value, Buyers, Sellers, Traded, Surplus, Net}

-- what is got less what is asked, for each unit of a volume
abbrev pub gain : ℤ → ℤ → ℕ → ℤ
gain get ask volume = (get -ℤ ask) *ℤ pos volume

abbrev pub sold : Measure → ℤ → Trade → ℤ
sold Value price t = gain (pos 0) t.limit t.volume
sold Buyers price t = pos 0
sold Sellers price t = gain price t.limit t.volume
sold Traded price t = pos 0
sold Surplus price t = gain price t.limit t.volume
sold (Net zone period) price t = volume_at zone period t

abbrev pub bought : Measure → ℤ → Trade → ℤ
bought Value price t = gain t.limit (pos 0) t.volume
bought Buyers price t = gain t.limit price t.volume
bought Sellers price t = pos 0
bought Traded price t = pos t.volume
bought Surplus price t = gain t.limit price t.volume
bought (Net zone period) price t = neg_ℤ (volume_at zone period t)

abbrev pub by_side : Side → ℤ → ℤ → ℤ
by_side Sell a b = a
by_side Buy a b = b

unfoldable pub measured : Measure → ℤ → Trade → ℤ
measured m price t = by_side t.side (sold m price t) (bought m price t)

-- at its zone's price in its period
abbrev pub priced : Measure → Prices → Trade → ℤ
priced m p t = measured m (p t.zone t.period) t

-- a trade and its price within their limits
pub record Small (t : Trade) (price : ℤ) : Type 0 where
  pub limit_small : nat_abs t.limit ≤ most_price
  pub price_small : nat_abs price ≤ most_price
  pub volume_small : t.volume ≤ most_volume

-- what is counted of a step, and of a block over its periods with a ratio
module _ (d : Day) (p : Prices) where
  unfoldable pub step_measured : Choice → Measure → ℕ → ℤ
  step_measured c m i = priced m p (step_trade (d.step i) (c.volume i))

  unfoldable pub block_measured : Measure → ℕ → ℕ → ℤ
  block_measured m k ratio = sum d.periods (λ h. priced m p (block_trade (d.block k) h (block_volume ratio (d.quantity k h))))

-- what a line takes from a zone in a period: its flow where the zone is "from", less its flow where it is "to"
abbrev pub line_leaves : Day → Choice → ℕ → ℕ → ℕ → ℤ
line_leaves d c zone period l = at (d.line l).from (c.flow l period) zone -ℤ at (d.line l).to (c.flow l period) zone
