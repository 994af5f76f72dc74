-- What two files that read without fault guarantee, and what the reader's two answers mean. Assumes nothing.
use Rattle.std.specs.Prelude.{ℕ, ◌+◌, ◌*◌, ◌<◌, ◌≤◌, ◌≡◌, ◌↔◌, List, length}
use Rattle.std.proofs.Common.{le_antisymm, arith, sym, ap, ◌∙◌}
use Rattle.stages.specs.Stage.{Means, clean-++, first_fault}
use Rattle.stages.proofs.StageLaws.{means, result_fault, result_good, result_bad}
use Rattle.stages.specs.declared.Place.{Place}
use Rattle.sections.specs.Section.{count, after, ended}
use Rattle.sections.specs.Good.{ended_clean, part_length}
use Rattle.wire.specs.Bytes.{u16_at, u32_at, i32_at}
use Rattle.limits.specs.Limits.{most_volume, most_ratio}
use Rattle.rows.specs.Rows.{row_size, row_start}
use Rattle.rows.specs.Sentences.{IsPrice, IsFlow, price_row, flow_row_lem, volume_row, ratio_row}
use Rattle.rows.specs.declared.Kind.{Kind}
use Rattle.rows.specs.declared.Kind.TheVariants.{Prices, Flows, Volumes, Ratios}
use Rattle.reader.specs.Reader.{GoodRows}
use Rattle.reader.specs.Chain.{then_clean}
use Rattle.day.specs.declared.Counts.{Counts}
use Rattle.day.specs.Day.{counts, day_stages}
use Rattle.day.specs.Good.{GoodDay, InLimits, in_limits, prices_most, flows_most, day_clean}
use Rattle.clearing.specs.Clearing.{flows_part, volumes_part, ratios_part, end_part, clearing_numbers, clearing_stages, file_stages, files}
use Rattle.clearing.specs.Chain.{from_flows, from_volumes, from_ratios}
use Rattle.std.specs.Prelude.{Result, Ok, Err}
use Rattle.stages.specs.declared.Refusal.{Refusal}
use Rattle.stages.specs.Stage.{clean, fault_of}

-- ---- the guarantees

-- a section with just as many rows as the day file asks
abbrev pub Asked : Kind → ℕ → List ℕ → Type 0
Asked kind asked part = GoodRows kind asked asked 0 0 part

pub record GoodClearing (c : Counts) (clearing : List ℕ) : Type 0 where
  pub prices_good : Asked Prices (c.zones * c.periods) clearing
  pub flows_good : Asked Flows (c.lines * c.periods) (flows_part clearing)
  pub volumes_good : Asked Volumes c.steps (volumes_part clearing)
  pub ratios_good : Asked Ratios c.blocks (ratios_part clearing)
  pub no_more : length (end_part clearing) ≡ 0

-- each count is the one that is asked
pub asked_is : (kind : Kind) {asked : ℕ} {part : List ℕ} → Asked kind asked part → count part ≡ asked
asked_is kind g = le_antisymm g.at_most g.at_least

-- the bytes of a clearing file, by the day's counts
abbrev pub clearing_length : Counts → ℕ
clearing_length c = 2 + 4 * (c.zones * c.periods) + (2 + 4 * (c.lines * c.periods)) + (2 + 4 * c.steps) + (2 + 2 * c.blocks)

-- ---- where all stages are clean

pub clearing_clean : (c : Counts) (clearing : List ℕ) → Means (clearing_stages c clearing) clean ↔ GoodClearing c clearing
unfolding clearing_stages
clearing_clean c clearing =
    let p = c.zones * c.periods in
    let f = c.lines * c.periods in
    let c1 = then_clean clearing_numbers 1 Prices p p 0 0 clearing (from_flows c (flows_part clearing)) in
    let c2 = then_clean clearing_numbers 2 Flows f f 0 0 (flows_part clearing) (from_volumes c (volumes_part clearing)) in
    let c3 = then_clean clearing_numbers 3 Volumes c.steps c.steps 0 0 (volumes_part clearing) (from_ratios c (ratios_part clearing)) in
    let c4 = then_clean clearing_numbers 4 Ratios c.blocks c.blocks 0 0 (ratios_part clearing) (ended 8 (end_part clearing)) in
    let e = ended_clean 8 (end_part clearing) in (
      λ m.
          let m1 = c1.0 m in
          let m2 = c2.0 m1.1 in
          let m3 = c3.0 m2.1 in
          let m4 = c4.0 m3.1 in
          record { prices_good = m1.0; flows_good = m2.0; volumes_good = m3.0; ratios_good = m4.0; no_more = e.0 m4.1 },
      λ g. c1.1 (g.prices_good, c2.1 (g.flows_good, c3.1 (g.volumes_good, c4.1 (g.ratios_good, e.1 g.no_more)))),
    )

pub files_clean : (day clearing : List ℕ) → Means (file_stages day clearing) clean ↔ (GoodDay day × GoodClearing (counts day) clearing)
files_clean day clearing =
    let b = clean-++ (day_stages day) (clearing_stages (counts day) clearing) in
    let d = day_clean day in
    let c = clearing_clean (counts day) clearing in
    (λ m. (d.0 (b.0 m).0, c.0 (b.0 m).1), λ g. b.1 (d.1 g.0, c.1 g.1))

-- ---- the two answers

-- their number and place are those of the first fault
pub files_fault : (day clearing : List ℕ) {r : Result Counts Refusal} → r ≡ files day clearing → fault_of r ≡ first_fault (file_stages day clearing)
files_fault day clearing e = ap fault_of e ∙ result_fault (counts day) (first_fault (file_stages day clearing))

-- two files read without fault just where they keep the guarantees
pub files_good : (day clearing : List ℕ) → (files day clearing ≡ Ok (counts day)) ↔ (GoodDay day × GoodClearing (counts day) clearing)
files_good day clearing =
    let a = result_good (counts day) (file_stages day clearing) in
    let c = files_clean day clearing in
    (λ e. c.0 (a.0 e), λ g. a.1 (c.1 g))

-- they are refused with a number and a place just where that is their first fault
pub files_bad : (day clearing : List ℕ) (k : ℕ) (p : Place) → (files day clearing ≡ Err (k, p)) ↔ Means (file_stages day clearing) (Err (k, p))
files_bad day clearing = result_bad (counts day) (file_stages day clearing)

-- the counts of a good answer are the day file's
pub good_files : (day clearing : List ℕ) (c : Counts) → files day clearing ≡ Ok c → (counts day ≡ c) × (GoodDay day × GoodClearing (counts day) clearing)
good_files day clearing c e =
    let f : first_fault (file_stages day clearing) ≡ clean = sym (files_fault day clearing (sym e)) in
    let same : Ok (counts day) ≡ Ok c = rw f at e in
    (cc, (files_clean day clearing).0 ((means (file_stages day clearing) clean).0 f))

-- the contract of `read_files` allows one answer
pub one_files_answer : (day clearing : List ℕ) {r s : Result Counts Refusal} → r ≡ files day clearing → s ≡ files day clearing → r ≡ s
one_files_answer day clearing p q = p ∙ sym q

-- ---- how long a good clearing file is

added : {d r1 r2 r3 r4 : ℕ} (a1 a2 a3 a4 : ℕ) → d ≡ a1 + r1 → r1 ≡ a2 + r2 → r2 ≡ a3 + r3 → r3 ≡ a4 + r4 → r4 ≡ 0 → d ≡ a1 + a2 + a3 + a4
added a1 a2 a3 a4 e1 e2 e3 e4 e = omega arith

part_is : (kind : Kind) {asked : ℕ} {part : List ℕ} → Asked kind asked part → length part ≡ 2 + row_size kind 0 * asked + length (after (row_size kind 0) part)
part_is kind {asked} {part} g = part_length (row_size kind 0) part g.room ∙ rw (asked_is kind g)

pub clearing_length_lem : (c : Counts) (clearing : List ℕ) → GoodClearing c clearing → length clearing ≡ clearing_length c
clearing_length_lem c clearing g =
    added
    (2 + 4 * (c.zones * c.periods))
    (2 + 4 * (c.lines * c.periods))
    (2 + 4 * c.steps)
    (2 + 2 * c.blocks)
    (part_is Prices g.prices_good)
    (part_is Flows g.flows_good)
    (part_is Volumes g.volumes_good)
    (part_is Ratios g.ratios_good)
    g.no_more

within : (c : Counts) → InLimits c → clearing_length c ≤ 10608
within c l = omega (arith, prices_most l, flows_most l)

-- the largest clearing file
pub clearing_longest : (day clearing : List ℕ) → GoodDay day → GoodClearing (counts day) clearing → length clearing ≤ 10608
clearing_longest day clearing d g = rw (clearing_length_lem (counts day) clearing g) (within (counts day) (in_limits d))

-- ---- each row obeys its rule, as a sentence

module _ {c : Counts} {clearing : List ℕ} (g : GoodClearing c clearing) {i : ℕ} where
  pub good_price : i < c.zones * c.periods → IsPrice (i32_at clearing (row_start Prices 0 i))
  good_price l = (price_row 0 0 clearing i).0 (g.prices_good.rows i (rw (asked_is Prices g.prices_good) l))

  pub good_flow : i < c.lines * c.periods → IsFlow (i32_at (flows_part clearing) (row_start Flows 0 i))
  good_flow l = (flow_row_lem 0 0 (flows_part clearing) i).0 (g.flows_good.rows i (rw (asked_is Flows g.flows_good) l))

  pub good_volume : i < c.steps → u32_at (volumes_part clearing) (row_start Volumes 0 i) ≤ most_volume
  good_volume l = (volume_row 0 0 (volumes_part clearing) i).0 (g.volumes_good.rows i (rw (asked_is Volumes g.volumes_good) l))

  pub good_ratio : i < c.blocks → u16_at (ratios_part clearing) (row_start Ratios 0 i) ≤ most_ratio
  good_ratio l = (ratio_row 0 0 (ratios_part clearing) i).0 (g.ratios_good.rows i (rw (asked_is Ratios g.ratios_good) l))
