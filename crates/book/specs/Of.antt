-- Two files with the counts in hand: whose frames are without fault, and that read without fault. Assumes nothing.
use Rattle.std.specs.Prelude.{ℕ, ◌+◌, ◌*◌, ◌<◌, ◌≤◌, ◌≡◌, refl, List, length}
use Rattle.std.proofs.Common.{mul-le-mul, lt_of_lt_of_le, le_antisymm, arith, subst}
use Rattle.rows.specs.Rows.{row_size, row_start}
use Rattle.rows.specs.declared.Kind.{Kind}
use Rattle.rows.specs.declared.Kind.TheVariants.{Prices, Flows, Volumes, Ratios}
use Rattle.day.specs.declared.Counts.{Counts}
use Rattle.day.specs.Day.{counts}
use Rattle.day.specs.Good.{GoodDay, InLimits, in_limits, prices_most, flows_most}
use Rattle.day.specs.Frame.{framed_day}
use Rattle.clearing.specs.Clearing.{flows_part, volumes_part, ratios_part}
use Rattle.clearing.specs.Good.{GoodClearing}
use Rattle.clearing.specs.Frame.{AskedRows, FramedClearing, framed_clearing}
use Rattle.parts.specs.Of.{OfDay, Sized}

-- the frame of a clearing file, by the counts of its day
pub record OfClearing (clearing : List ℕ) (c : Counts) : Type 0 where
  pub framed : FramedClearing c clearing
  pub limits : InLimits c

-- both files read without fault
pub record OfFiles (day clearing : List ℕ) (c : Counts) : Type 0 where
  pub of_day : OfDay day c
  pub of_clearing : OfClearing clearing c
  pub good_day : GoodDay day
  pub good_clearing : GoodClearing c clearing

-- by the day file's own counts
pub of_files : {day clearing : List ℕ} → GoodDay day → GoodClearing (counts day) clearing → OfFiles day clearing (counts day)
of_files d c = record {
  of_day = record { framed = framed_day d; counted = refl };
  of_clearing = record { framed = framed_clearing c; limits = in_limits d };
  good_day = d;
  good_clearing = c;
}

-- ---- the rows of a section, and the cells of a table

-- where n rows end within a part, each of them does
pub row_within : (kind : Kind) (periods : ℕ) {i n bytes : ℕ} → row_start kind periods n ≤ bytes → i < n →
    row_start kind periods i + row_size kind periods ≤ bytes
row_within kind periods {i} {n} s l =
    let size = row_size kind periods in
    let h : size * (i + 1) ≤ size * n = mul-le-mul {n₂ = size} {m₂ = n} (omega arith) (omega arith) in
    omega arith

-- a cell lies within its table, all columns of row 0 first
pub cell_below : {row column rows columns : ℕ} → row < rows → column < columns → row * columns + column < rows * columns
cell_below {row} {column} {rows} {columns} l k =
    let h : (row + 1) * columns ≤ rows * columns = mul-le-mul {n₂ = rows} {m₂ = columns} (omega arith) (omega arith) in
    omega arith

-- ---- the sections of a clearing file, with the counts that the day file asks

asked_sized : (kind : Kind) {asked : ℕ} {whole : List ℕ} → AskedRows kind asked whole → {part : List ℕ} → part ≡ whole → Sized kind 0 part asked
asked_sized kind {whole = whole} g q =
    let e = le_antisymm g.at_most g.at_least in
    rw q (omega arith, (e, subst (λ (n : ℕ). 2 + row_size kind 0 * n ≤ length whole) e g.room))

module _ {clearing : List ℕ} {c : Counts} (o : OfClearing clearing c) where
  pub prices_sized : Sized Prices 0 clearing (c.zones * c.periods)
  prices_sized = asked_sized Prices o.framed.prices_head refl

  pub flows_sized : {part : List ℕ} → part ≡ flows_part clearing → Sized Flows 0 part (c.lines * c.periods)
  flows_sized = asked_sized Flows o.framed.flows_head

  pub volumes_sized : {part : List ℕ} → part ≡ volumes_part clearing → Sized Volumes 0 part c.steps
  volumes_sized = asked_sized Volumes o.framed.volumes_head

  pub ratios_sized : {part : List ℕ} → part ≡ ratios_part clearing → Sized Ratios 0 part c.blocks
  ratios_sized = asked_sized Ratios o.framed.ratios_head

  -- no cell is beyond the most prices, or the most flows
  pub price_cell : {zone period : ℕ} → (zone < c.zones) × (period < c.periods) → zone * c.periods + period < 200
  price_cell l = lt_of_lt_of_le (cell_below l.0 l.1) (prices_most o.limits)

  pub flow_cell : {line period : ℕ} → (line < c.lines) × (period < c.periods) → line * c.periods + period < 400
  flow_cell l = lt_of_lt_of_le (cell_below l.0 l.1) (flows_most o.limits)
