-- Two files whose sections are opened: their frames are without fault, and so are the rows of the periods and the zones. Assumes nothing.
use Rattle.std.specs.Prelude.{ℕ, List}
use Rattle.limits.specs.Limits.{most_periods, most_zones}
use Rattle.rows.specs.declared.Kind.TheVariants.{Periods, Zones}
use Rattle.reader.specs.Reader.{GoodRows}
use Rattle.day.specs.Day.{periods, zones_part}
use Rattle.day.specs.declared.Counts.{Counts}
use Rattle.book.specs.Framed.{Framed}

pub record Opened (day clearing : List ℕ) (c : Counts) : Type 0 where
  pub framed : Framed day clearing c
  pub periods_good : GoodRows Periods 1 most_periods 0 0 day
  pub zones_good : GoodRows Zones 1 most_zones (periods day) 0 (zones_part day)
