-- Rows that are sure make two files that read without fault and keep the rules. Assumes nothing.
use Rattle.std.specs.Prelude.{ℕ, ◌+◌, ◌*◌, ◌/◌, ◌%◌, ◌<◌, ◌≤◌, ◌≡◌, List}
use Rattle.std.proofs.Common.{le_antisymm, le_trans, div-lt_iff_lt-mul, mod-lt, arith, sym, ap, subst}
use Rattle.std.proofs.Math.Nat.{mod-add-div}
use Rattle.whole.proofs.Size.{abs_le}
use Rattle.limits.specs.Limits.{most_price}
use Rattle.market.specs.Rules.{Lawful, Balanced}
use Rattle.market.proofs.RuleLaws.{test_is}
use Rattle.market.specs.declared.Rule.TheVariants.{Price, Capacity, Quantity, Ratio, Whole, Step, Line, Block}
use Rattle.wire.specs.Bytes.{i32_at}
use Rattle.rows.specs.Rows.{row_start}
use Rattle.rows.specs.declared.Kind.TheVariants as kinds
use Rattle.rows.specs.Sentences.{IsPrice, IsFlow, period_row, line_row, step_row, block_row, price_row, flow_row_lem, volume_row, ratio_row}
use Rattle.day.specs.declared.Counts.{Counts}
use Rattle.day.specs.Day.{counts}
use Rattle.day.specs.Good.{GoodDay}
use Rattle.day.specs.Frame.{good_day}
use Rattle.clearing.specs.Clearing.{flows_part, volumes_part, ratios_part}
use Rattle.clearing.specs.Good.{GoodClearing}
use Rattle.clearing.specs.Frame.{good_clearing}
use Rattle.book.specs.Book.{floor_of, ceiling_of, day_of, prices_of, choice_of, volume_of, ratio_of, flow_of, step_of}
use Rattle.book.specs.Of.{OfFiles}
use Rattle.book.specs.Framed.{PricesSmall}
use Rattle.frame.specs.Opened.{Opened}
use Rattle.lines.specs.Sure.{SurePrice, SureLine}
use Rattle.steps.specs.Sure.{SureStep}
use Rattle.blocks.specs.Sure.{SureBlock}

-- ---- before the rows

-- floors and ceilings within their limits, by the rows of the periods
pub bounds_good : {day clearing : List ℕ} {c : Counts} → Opened day clearing c → (h : ℕ) → h < c.periods → IsPrice (floor_of day h) × IsPrice (ceiling_of day h)
unfolding floor_of ceiling_of
bounds_good {day} o h l =
    let row = (period_row 0 0 day h).0 (o.periods_good.rows h (rw (ap (λ (k : Counts). k.periods) o.framed.of_day.counted) l)) in
    (row.floor_is, row.ceiling_is)

-- and so the prices
pub prices_near : {day clearing : List ℕ} {c : Counts} → ((z h : ℕ) → z < c.zones → h < c.periods → SurePrice c day clearing z h) → PricesSmall c clearing
prices_near {clearing = clearing} {c} p z h l k = (abs_le (prices_of c clearing z h) most_price).1 ((p z h l k).price_is.low, (p z h l k).price_is.high)

-- ---- all rows are sure

pub record AllSure (day clearing : List ℕ) (c : Counts) : Type 0 where
  pub opened : Opened day clearing c
  pub prices : (z h : ℕ) → z < c.zones → h < c.periods → SurePrice c day clearing z h
  pub lines : (l : ℕ) → l < c.lines → SureLine c day clearing l
  pub steps : (i : ℕ) → i < c.steps → SureStep c day clearing i
  pub blocks : (k : ℕ) → k < c.blocks → SureBlock c day clearing k

-- a cell's row and column, and the cell again
cell_of : (rows : ℕ) {columns : ℕ} → 1 ≤ columns → {i : ℕ} → i < rows * columns →
    (i / columns < rows) × ((i % columns < columns) × (i / columns * columns + i % columns ≡ i))
cell_of rows {columns} least {i} l = ((div-lt_iff_lt-mul least).1 l, (mod-lt i least, omega (arith, mod-add-div i columns)))

module _ {day clearing : List ℕ} {c : Counts} (a : AllSure day clearing c) where
  abbrev is : counts day ≡ c
  is = a.opened.framed.of_day.counted

  -- the same by the file's own counts
  own : AllSure day clearing (counts day)
  own = subst (AllSure day clearing) (sym is) a

  good_day_is : GoodDay day
  good_day_is =
      good_day a.opened.framed.of_day.framed a.opened.periods_good a.opened.zones_good
      (λ l b. (line_row _ _ _ l).1 (own.lines l b).row)
      (λ i b. (step_row _ _ _ i).1 (own.steps i b).row)
      (λ k b. (block_row _ _ _ k).1 (own.blocks k b).row)

  good_clearing_is : GoodClearing c clearing
  unfolding prices_of flow_of volume_of ratio_of step_of
  good_clearing_is =
      let f = a.opened.framed.of_clearing.framed in
      let least = a.opened.framed.of_clearing.limits.periods_least in
      good_clearing f
      (λ i b.
      let at = cell_of c.zones least (rw (le_antisymm f.prices_head.at_most f.prices_head.at_least) at b) in
      (price_row 0 0 clearing i).1
      (subst (λ (n : ℕ). IsPrice (i32_at clearing (row_start kinds.Prices 0 n))) at.1.1
      (a.prices (i / c.periods) (i % c.periods) at.0 at.1.0).price_is))
      (λ i b.
      let at = cell_of c.lines least (rw (le_antisymm f.flows_head.at_most f.flows_head.at_least) at b) in
      (flow_row_lem 0 0 (flows_part clearing) i).1
      (subst (λ (n : ℕ). IsFlow (i32_at (flows_part clearing) (row_start kinds.Flows 0 n))) at.1.1
      ((a.lines (i / c.periods) at.0).flow_is (i % c.periods) at.1.0)))
      (λ i b.
      let l = rw (le_antisymm f.volumes_head.at_most f.volumes_head.at_least) at b in
      (volume_row 0 0 (volumes_part clearing) i).1
      (le_trans ((test_is (day_of c day) (prices_of c clearing) (choice_of c clearing) Quantity i 0).0 (a.steps i l).quantity) (a.steps i l).row.at_most))
      (λ k b.
      (ratio_row 0 0 (ratios_part clearing) k).1 (a.blocks k (rw (le_antisymm f.ratios_head.at_most f.ratios_head.at_least) at b)).ratio_is)

  pub files_are : OfFiles day clearing c
  files_are = record {
    of_day = a.opened.framed.of_day;
    of_clearing = a.opened.framed.of_clearing;
    good_day = good_day_is;
    good_clearing = good_clearing_is;
  }

  -- all rules but one, at all their places
  pub lawful_but : Balanced (day_of c day) (choice_of c clearing) → Lawful (day_of c day) (prices_of c clearing) (choice_of c clearing)
  lawful_but b =
      let obeys = test_is (day_of c day) (prices_of c clearing) (choice_of c clearing) in
      record {
        price_rule = λ z h l k. (obeys Price z h).0 (a.prices z h l k).kept;
        capacity_rule = λ l h i k. (obeys Capacity l h).0 ((a.lines l i).capacity h k);
        quantity_rule = λ i l. (obeys Quantity i 0).0 (a.steps i l).quantity;
        ratio_rule = λ k l. (obeys Ratio k 0).0 (a.blocks k l).ratio;
        whole_rule = λ k h l n. (obeys Whole k h).0 ((a.blocks k l).whole h n);
        balance_rule = b;
        step_rule = λ i l. (obeys Step i 0).0 (a.steps i l).step;
        line_rule = λ l h i k. (obeys Line l h).0 ((a.lines l i).line h k);
        block_rule = λ k l. (obeys Block k 0).0 (a.blocks k l).block;
      }
