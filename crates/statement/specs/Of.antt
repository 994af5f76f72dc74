-- The rows of a statement's net positions, ordered like prices. Assumes nothing.
use Rattle.std.specs.Prelude.{ℕ, ◌+◌, ◌*◌, ◌/◌, ◌%◌, ◌<◌, ◌≤◌, ◌≡◌, List, ℤ, pos, get_or}
use Rattle.std.proofs.Common.{le_refl, div-lt_iff_lt-mul, mod-lt, arith, sym, SFits}
use Rattle.std.proofs.Math.Arith.{digits_div, digits_mod}
use Rattle.std.specs.Int.{w32}
use Rattle.whole.proofs.Size.{fits_i32}
use Rattle.cells.specs.Cells.{Tabled, row_tabled}
use Rattle.market.specs.Market.{net_position}
use Rattle.market.specs.declared.Totals.{Totals}
use Rattle.market.specs.Rules.{Balanced}
use Rattle.market.proofs.MeasureLaws.{flows_size, net_flow_is}
use Rattle.day.specs.declared.Counts.{Counts}
use Rattle.day.specs.Good.{prices_most}
use Rattle.book.specs.Book.{day_of, choice_of}
use Rattle.book.specs.Of.{OfFiles}
use Rattle.book.specs.Ranges.{placed, ranged}
use Rattle.totals.specs.Sums.{net_flow}
use Rattle.statement.specs.Statement.{statement}
use Rattle.statement.specs.Laws.{nets_cong}

-- so many net positions
abbrev pub net_count : Counts → ℕ
net_count c = c.zones * c.periods

-- the row k of a table of zones and periods, all periods of zone 0 first
abbrev pub in_row : ℕ → (ℕ → ℕ → ℤ) → ℕ → ℤ
in_row periods f k = f (k / periods) (k % periods)

module _ (c : Counts) (day clearing : List ℕ) where
  abbrev pub net_row : ℕ → ℤ
  net_row = in_row c.periods (net_position (day_of c day) (choice_of c clearing))

  -- the statement with these totals
  abbrev pub statement_with : Totals → List ℕ
  statement_with totals = statement totals net_row (net_count c)

  -- what the lines carry away, in the same rows
  abbrev pub flow_row : ℕ → ℤ
  flow_row = in_row c.periods (net_flow c day clearing)

-- ---- a row's zone and period, and the row of a zone and a period

pub row_zone : {k zones periods : ℕ} → k < zones * periods → 1 ≤ periods → k / periods < zones
row_zone l h = (div-lt_iff_lt-mul h).1 l

pub row_period : (k : ℕ) {periods : ℕ} → 1 ≤ periods → k % periods < periods
row_period k h = mod-lt k h

pub cell_row : (f : ℕ → ℕ → ℤ) (periods zone period : ℕ) → period < periods → in_row periods f (zone * periods + period) ≡ f zone period
cell_row f periods zone period l = rw (digits_div zone l, digits_mod zone l)

-- ---- the rows of two files that read without fault

module _ {day clearing : List ℕ} {c : Counts} (o : OfFiles day clearing c) (k : ℕ) where
  pub flow_row_fits : SFits w32 (flow_row c day clearing k)
  flow_row_fits =
      let h = c.periods in
      let below = row_period k o.of_clearing.limits.periods_least in
      let size = flows_size _ _ _ (placed o) (ranged o) c.lines (k / h) (k % h) (le_refl c.lines) below in
      let is = net_flow_is (day_of c day) (choice_of c clearing) (k / h) (k % h) in
      fits_i32 (flow_row c day clearing k) (rw (← is) (omega (arith, size)))

  -- in a balanced clearing a net position is what the lines carry away
  pub flow_row_is : Balanced (day_of c day) (choice_of c clearing) → k < net_count c → flow_row c day clearing k ≡ net_row c day clearing k
  flow_row_is b l =
      let least = o.of_clearing.limits.periods_least in
      sym (b (k / c.periods) (k % c.periods) (row_zone l least) (row_period k least))

-- ---- a table of the net positions

module _ {day clearing : List ℕ} {c : Counts} (o : OfFiles day clearing c) {table : List ℤ}
    (t : Tabled c.zones c.periods (net_position (day_of c day) (choice_of c clearing)) table) where
  -- its cells, one after the other
  table_row : (k : ℕ) → k < net_count c → get_or table k (pos 0) ≡ net_row c day clearing k
  table_row k l = let limits = o.of_clearing.limits in row_tabled (prices_most limits) t limits.periods_least l

  pub table_fits : Balanced (day_of c day) (choice_of c clearing) → (k : ℕ) → k < net_count c → SFits w32 (get_or table k (pos 0))
  table_fits b k l = rw (table_row k l, ← flow_row_is o k b l) (flow_row_fits o k)

  pub table_statement : (totals : Totals) → statement totals (λ k. get_or table k (pos 0)) (net_count c) ≡ statement_with c day clearing totals
  table_statement totals = rw (nets_cong (λ k. get_or table k (pos 0)) (net_row c day clearing) (net_count c) table_row)
