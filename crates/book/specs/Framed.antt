-- Two files whose frames are without fault, with their counts in hand, and prices within their limits: what is known before the rows are
-- read. Assumes nothing.
use Rattle.std.specs.Prelude.{ℕ, ◌<◌, ◌≤◌, List, nat_abs}
use Rattle.limits.specs.Limits.{most_price}
use Rattle.day.specs.declared.Counts.{Counts}
use Rattle.parts.specs.Of.{OfDay}
use Rattle.book.specs.Book.{prices_of}
use Rattle.book.specs.Of.{OfClearing}

pub record Framed (day clearing : List ℕ) (c : Counts) : Type 0 where
  pub of_day : OfDay day c
  pub of_clearing : OfClearing clearing c

abbrev pub PricesSmall : Counts → List ℕ → Type 0
PricesSmall c clearing = (zone period : ℕ) → zone < c.zones → period < c.periods → nat_abs (prices_of c clearing zone period) ≤ most_price
