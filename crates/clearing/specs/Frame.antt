-- The frame of a clearing file: the counts that the day asks, room for all rows, and nothing after them. With rows that obey their rules it
-- reads without fault. Assumes nothing.
use Rattle.std.specs.Prelude.{ℕ, ◌*◌, ◌<◌, ◌≡◌, true, List, length}
use Rattle.stages.specs.First.{every}
use Rattle.sections.specs.Section.{count}
use Rattle.sections.specs.Good.{head, with_rows_lem}
use Rattle.rows.specs.Rows.{field_count, field_ok}
use Rattle.rows.specs.declared.Kind.{Kind}
use Rattle.rows.specs.declared.Kind.TheVariants.{Prices, Flows, Volumes, Ratios}
use Rattle.reader.specs.Reader.{HeadRows}
use Rattle.day.specs.declared.Counts.{Counts}
use Rattle.clearing.specs.Clearing.{flows_part, volumes_part, ratios_part, end_part}
use Rattle.clearing.specs.Good.{GoodClearing}

-- a section with just as many rows as the day file asks
abbrev pub AskedRows : Kind → ℕ → List ℕ → Type 0
AskedRows kind asked part = HeadRows kind asked asked 0 part

pub record FramedClearing (c : Counts) (clearing : List ℕ) : Type 0 where
  pub prices_head : AskedRows Prices (c.zones * c.periods) clearing
  pub flows_head : AskedRows Flows (c.lines * c.periods) (flows_part clearing)
  pub volumes_head : AskedRows Volumes c.steps (volumes_part clearing)
  pub ratios_head : AskedRows Ratios c.blocks (ratios_part clearing)
  pub no_more : length (end_part clearing) ≡ 0

pub framed_clearing : {c : Counts} {clearing : List ℕ} → GoodClearing c clearing → FramedClearing c clearing
framed_clearing g = record {
  prices_head = head g.prices_good;
  flows_head = head g.flows_good;
  volumes_head = head g.volumes_good;
  ratios_head = head g.ratios_good;
  no_more = g.no_more;
}

-- each row of a section obeys its rule
abbrev pub RowsObey : Kind → List ℕ → Type 0
RowsObey kind part = (i : ℕ) → i < count part → every (field_count kind 0) (field_ok kind 0 0 part i) ≡ true

pub good_clearing : {c : Counts} {clearing : List ℕ} → FramedClearing c clearing → RowsObey Prices clearing → RowsObey Flows (flows_part clearing) →
    RowsObey Volumes (volumes_part clearing) → RowsObey Ratios (ratios_part clearing) → GoodClearing c clearing
good_clearing f p l v r = record {
  prices_good = with_rows_lem f.prices_head p;
  flows_good = with_rows_lem f.flows_head l;
  volumes_good = with_rows_lem f.volumes_head v;
  ratios_good = with_rows_lem f.ratios_head r;
  no_more = f.no_more;
}
