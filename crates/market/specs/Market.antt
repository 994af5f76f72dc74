-- The trade with no bytes: a day, a choice of what is accepted, prices, and what they come to. Zones, periods and rows are numbered from 0.
-- Prices are hundredths of a euro per MWh, volumes and flows tenths of a MW, so price times volume is in thousandths of a euro.
-- Assumes nothing.
use Rattle.std.specs.Prelude.{ℕ, ◌*◌, ◌/◌, ℤ, pos, ◌+ℤ◌, ◌-ℤ◌, ◌*ℤ◌}
use Rattle.whole.specs.Whole.{sum, at, above_zero}
use Rattle.limits.specs.Limits.{most_ratio}
use Rattle.market.specs.declared.Side.{Side}
use Rattle.market.specs.declared.Side.TheVariants.{Sell, Buy}
use Rattle.market.specs.declared.Step.{Step}
use Rattle.market.specs.declared.Block.{Block}
use Rattle.market.specs.declared.Line.{Line}
use Rattle.market.specs.declared.Trade.{Trade}
use Rattle.market.specs.declared.Totals.{Totals}

-- ---- a day, a choice, prices

pub record Day : Type 0 where
  pub periods : ℕ
  pub zones : ℕ
  pub lines : ℕ
  pub steps : ℕ
  pub blocks : ℕ
  -- of a period
  pub floor : ℕ → ℤ
  pub ceiling : ℕ → ℤ
  -- of a line; of a line and a period
  pub line : ℕ → Line
  pub forward : ℕ → ℕ → ℤ
  pub back : ℕ → ℕ → ℤ
  pub step : ℕ → Step
  -- of a block; of a block and a period
  pub block : ℕ → Block
  pub quantity : ℕ → ℕ → ℕ

pub record Choice : Type 0 where
  -- of a step: the accepted volume
  pub volume : ℕ → ℕ
  -- of a block: the accepted ratio, the same in all its periods, in thousandths; 0 where it is rejected
  pub ratio : ℕ → ℕ
  -- of a line and a period; above zero runs from "from" to "to"
  pub flow : ℕ → ℕ → ℤ

-- of a zone and a period
abbrev pub Prices : Type 0
Prices = ℕ → ℕ → ℤ

-- ---- what a choice accepts

-- An accepted volume is quantity times ratio over 1,000. That it is whole is rule 21.
unfoldable pub block_volume : ℕ → ℕ → ℕ
block_volume ratio quantity = quantity * ratio / most_ratio

abbrev pub step_trade : Step → ℕ → Trade
step_trade s volume = record { zone = s.zone; period = s.period; side = s.side; limit = s.limit; volume = volume }

abbrev pub block_trade : Block → ℕ → ℕ → Trade
block_trade b period volume = record { zone = b.zone; period = period; side = b.side; limit = b.limit; volume = volume }

-- x where the trade is a sell, and where it is a buy
abbrev pub of_sells : Side → ℤ → ℤ
of_sells Sell x = x
of_sells Buy x = pos 0

abbrev pub of_buys : Side → ℤ → ℤ
of_buys Sell x = pos 0
of_buys Buy x = x

-- the trade's volume, where it is in this zone and period
abbrev pub volume_at : ℕ → ℕ → Trade → ℤ
volume_at zone period t = at t.zone (at t.period (pos t.volume) period) zone

-- what a unit gains over its limit at a price
abbrev pub margin : Side → ℤ → ℤ → ℤ
margin Sell limit price = price -ℤ limit
margin Buy limit price = limit -ℤ price

module _ (d : Day) (c : Choice) where
  -- f summed over all that is accepted: each step, and each block in each of its periods
  unfoldable pub accepted : (Trade → ℤ) → ℤ
  accepted f =
      sum d.steps (λ i. f (step_trade (d.step i) (c.volume i)))
      +ℤ sum d.blocks (λ k. sum d.periods (λ h. f (block_trade (d.block k) h (block_volume (c.ratio k) (d.quantity k h)))))

  abbrev pub sells : (Trade → ℤ) → ℤ
  sells f = accepted (λ t. of_sells t.side (f t))

  abbrev pub buys : (Trade → ℤ) → ℤ
  buys f = accepted (λ t. of_buys t.side (f t))

  -- Supply of a zone and period: accepted sell steps there, plus the accepted volumes for that period of sell blocks there. Demand likewise
  -- for buys. Net position is supply less demand.
  abbrev pub supply : ℕ → ℕ → ℤ
  supply zone period = sells (volume_at zone period)

  abbrev pub demand : ℕ → ℕ → ℤ
  demand zone period = buys (volume_at zone period)

  abbrev pub net_position : ℕ → ℕ → ℤ
  net_position zone period = supply zone period -ℤ demand zone period

  -- flows leaving and flows entering a zone in a period
  abbrev pub leaving : ℕ → ℕ → ℤ
  leaving zone period = sum d.lines (λ l. at (d.line l).from (c.flow l period) zone)

  abbrev pub entering : ℕ → ℕ → ℤ
  entering zone period = sum d.lines (λ l. at (d.line l).to (c.flow l period) zone)

-- ---- the totals

module _ (d : Day) (c : Choice) where
  -- Order value: limit times accepted volume over buys, less the same over sells, blocks included.
  abbrev pub order_value : ℤ
  order_value = buys d c (λ t. t.limit *ℤ pos t.volume) -ℤ sells d c (λ t. t.limit *ℤ pos t.volume)

  -- Traded volume: all accepted buy volume.
  abbrev pub traded_volume : ℤ
  traded_volume = buys d c (λ t. pos t.volume)

module _ (d : Day) (p : Prices) where
  -- the surplus that a block has with these volumes, one for each period, at the stated prices, each period at its zone's price
  unfoldable pub surplus_of : ℕ → (ℕ → ℤ) → ℤ
  surplus_of k volume = sum d.periods (λ h. margin (d.block k).side (d.block k).limit (p (d.block k).zone h) *ℤ volume h)

  -- that the whole block has
  abbrev pub whole_surplus : ℕ → ℤ
  whole_surplus k = surplus_of k (λ h. pos (d.quantity k h))

module _ (d : Day) (p : Prices) (c : Choice) where
  -- Buyer surplus: (limit - price) times accepted volume over buys.
  abbrev pub buyer_surplus : ℤ
  buyer_surplus = buys d c (λ t. (t.limit -ℤ p t.zone t.period) *ℤ pos t.volume)

  -- Seller surplus: (price - limit) times accepted volume over sells.
  abbrev pub seller_surplus : ℤ
  seller_surplus = sells d c (λ t. (p t.zone t.period -ℤ t.limit) *ℤ pos t.volume)

  -- Rent: flow times (price at "to" - price at "from").
  abbrev pub rent_at : ℕ → ℕ → ℤ
  rent_at l h = c.flow l h *ℤ (p (d.line l).to h -ℤ p (d.line l).from h)

  unfoldable pub rent : ℤ
  rent = sum d.lines (λ l. sum d.periods (λ h. rent_at l h))

  -- Shortfall: over the blocks, the surplus at the stated prices of what is left unaccepted of the block, over all its periods together,
  -- where above zero, else 0.
  abbrev pub left_surplus : ℕ → ℤ
  left_surplus k = surplus_of d p k (λ h. pos (d.quantity k h) -ℤ pos (block_volume (c.ratio k) (d.quantity k h)))

  abbrev pub missed : ℕ → ℤ
  missed k = above_zero (left_surplus k)

  unfoldable pub shortfall : ℤ
  shortfall = sum d.blocks missed

  unfoldable pub totals : Totals
  totals = record {
    value = order_value d c;
    buyers = buyer_surplus;
    sellers = seller_surplus;
    rent = rent;
    traded = traded_volume d c;
    shortfall = shortfall;
  }
