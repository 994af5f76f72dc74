-- A day without bytes: two periods, one zone, one block that sells. Assumes nothing.
use Rattle.std.specs.Prelude.{ℕ, cond, eqb, pos, neg_ℤ}
use Rattle.market.specs.Market.{Day, Choice, Prices}
use Rattle.market.specs.declared.Side.TheVariants.{Sell}

-- its limit, its least ratio and its two quantities
abbrev pub one_block : ℕ → ℕ → ℕ → ℕ → Day
one_block limit least first second = record {
  periods = 2;
  zones = 1;
  lines = 0;
  steps = 0;
  blocks = 1;
  floor = λ h. neg_ℤ (pos 1000000);
  ceiling = λ h. pos 1000000;
  line = λ l. record { from = 0; to = 0 };
  forward = λ l h. pos 0;
  back = λ l h. pos 0;
  step = λ i. record { zone = 0; period = 0; side = Sell; limit = pos 0; quantity = 1 };
  block = λ k. record { zone = 0; side = Sell; limit = pos limit; least = least };
  quantity = λ k h. cond (eqb h 0) first second;
}

abbrev pub two_prices : ℕ → ℕ → Prices
two_prices first second = λ z h. pos (cond (eqb h 0) first second)

abbrev pub accepting : ℕ → Choice
accepting ratio = record { volume = λ i. 0; ratio = λ k. ratio; flow = λ l h. pos 0 }
