-- The sums over the rows of two files, as their loops make them. Assumes nothing.
use Rattle.std.specs.Prelude.{ℕ, ◌<◌, List, ℤ, ◌-ℤ◌}
use Rattle.whole.specs.Whole.{sum}
use Rattle.market.specs.Market as market
use Rattle.market.specs.Measures as measures
use Rattle.market.specs.Measures.{Small, priced, step_measured, block_measured}
use Rattle.market.specs.declared.Trade.{Trade}
use Rattle.market.specs.declared.Totals.{Totals}
use Rattle.market.specs.declared.Measure.{Measure}
use Rattle.day.specs.declared.Counts.{Counts}
use Rattle.book.specs.Of.{OfClearing}
use Rattle.book.specs.Book.{day_of, prices_of, choice_of, step_of, volume_of, block_of, quantity_of}

abbrev pub step_trade : List ℕ → List ℕ → ℕ → Trade
step_trade day clearing i = market.step_trade (step_of day i) (volume_of clearing i)

-- a trade at the price of its zone and period, which are there, with numbers within their limits
abbrev pub priced_in : List ℕ → Counts → Measure → Trade → ℤ
priced_in clearing c m t = priced m (prices_of c clearing) t

pub record Priceable (clearing : List ℕ) (c : Counts) (t : Trade) : Type 0 where
  pub of_clearing : OfClearing clearing c
  pub zone_is : t.zone < c.zones
  pub period_is : t.period < c.periods
  pub small : Small t (prices_of c clearing t.zone t.period)

module _ (c : Counts) (day clearing : List ℕ) where
  abbrev pub block_trade : ℕ → ℕ → ℕ → Trade
  block_trade k period ratio = market.block_trade (block_of c day k) period (market.block_volume ratio (quantity_of c day k period))

  abbrev pub one_step : Measure → ℕ → ℤ
  one_step m = step_measured (day_of c day) (prices_of c clearing) (choice_of c clearing) m

  -- one period of a block, and all its periods, at a ratio
  abbrev pub one_period : Measure → ℕ → ℕ → ℕ → ℤ
  one_period m k ratio period = priced m (prices_of c clearing) (block_trade k period ratio)

  abbrev pub over_periods : Measure → ℕ → ℕ → ℤ
  over_periods m k ratio = block_measured (day_of c day) (prices_of c clearing) m k ratio

  -- at the accepted ratio
  abbrev pub one_block : Measure → ℕ → ℤ
  one_block m k = over_periods m k ((choice_of c clearing).ratio k)

  -- over all that is accepted
  abbrev pub everything : Measure → ℤ
  everything m = market.accepted (day_of c day) (choice_of c clearing) (priced m (prices_of c clearing))

  abbrev pub net_position : ℕ → ℕ → ℤ
  net_position = market.net_position (day_of c day) (choice_of c clearing)

  abbrev pub whole_surplus : ℕ → ℤ
  whole_surplus = market.whole_surplus (day_of c day) (prices_of c clearing)

  abbrev pub left_surplus : ℕ → ℤ
  left_surplus = market.left_surplus (day_of c day) (prices_of c clearing) (choice_of c clearing)

  abbrev pub missed : ℕ → ℤ
  missed = market.missed (day_of c day) (prices_of c clearing) (choice_of c clearing)

  abbrev pub rent_at : ℕ → ℕ → ℤ
  rent_at = market.rent_at (day_of c day) (prices_of c clearing) (choice_of c clearing)

  abbrev pub line_rent : ℕ → ℤ
  line_rent l = sum c.periods (rent_at l)

  -- flows leaving less flows entering, of one line and of all
  abbrev pub line_leaves : ℕ → ℕ → ℕ → ℤ
  line_leaves = measures.line_leaves (day_of c day) (choice_of c clearing)

  abbrev pub net_flow : ℕ → ℕ → ℤ
  net_flow zone period =
      market.leaving (day_of c day) (choice_of c clearing) zone period -ℤ market.entering (day_of c day) (choice_of c clearing) zone period

  abbrev pub totals : Totals
  totals = market.totals (day_of c day) (prices_of c clearing) (choice_of c clearing)
