-- Two files in which nothing is broken, with their counts, their totals and their net positions: what the walk is sure of. Assumes nothing.
use Rattle.std.specs.Prelude.{ℕ, ◌≡◌, List, ℤ}
use Rattle.cells.specs.Cells.{Tabled}
use Rattle.market.specs.Market.{totals, net_position}
use Rattle.market.specs.Rules.{Lawful}
use Rattle.market.specs.declared.Totals.{Totals}
use Rattle.day.specs.declared.Counts.{Counts}
use Rattle.book.specs.Book.{day_of, prices_of, choice_of}
use Rattle.book.specs.Of.{OfFiles}
use Rattle.std.specs.Prelude.{Option, Some, None}

pub record Walked (day clearing : List ℕ) (c : Counts) (t : Totals) (nets : List ℤ) : Type 0 where
  pub of_files : OfFiles day clearing c
  pub lawful : Lawful (day_of c day) (prices_of c clearing) (choice_of c clearing)
  pub totals_are : t ≡ totals (day_of c day) (prices_of c clearing) (choice_of c clearing)
  pub nets_are : Tabled c.zones c.periods (net_position (day_of c day) (choice_of c clearing)) nets

-- what an answer says: a doubt says nothing
abbrev pub Says : List ℕ → List ℕ → Option (Counts × Totals) → List ℤ → Type 0
Says day clearing (Some (c, t)) nets = Walked day clearing c t nets
Says day clearing None nets = Unit
