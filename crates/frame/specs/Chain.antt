-- What is known of a file from each section on, as the functions hand on what is left of it. Assumes nothing.
use Rattle.std.specs.Prelude.{ℕ, ◌+◌, ◌*◌, ◌≤◌, ◌≡◌, List, length}
use Rattle.std.proofs.Common.{arith, sym, subst, ap, ◌∙◌}
use Rattle.stages.proofs.StageLaws.{means}
use Rattle.limits.specs.Limits.{most_periods, most_zones, most_lines, most_steps, most_blocks}
use Rattle.sections.specs.Section.{count, after}
use Rattle.sections.specs.Answer.{Read, head_of, head_read, head_same, section_read, section_fault, reading_of}
use Rattle.sections.specs.Good.{Head, head}
use Rattle.sections.proofs.GoodLaws.{section_clean}
use Rattle.sections.specs.declared.SectionFault.{SectionFault}
use Rattle.rows.specs.Rows.{row_size, field_count, field_ok}
use Rattle.rows.specs.declared.Kind.{Kind}
use Rattle.rows.specs.declared.Kind.TheVariants.{Periods, Zones, Lines, Steps, Blocks, Prices, Flows, Volumes, Ratios}
use Rattle.reader.specs.Reader.{GoodRows, HeadRows, file_section, rows_at}
use Rattle.day.specs.Day.{day_numbers}
use Rattle.day.specs.Good.{InLimits}
use Rattle.day.specs.Chain.{counts_of}
use Rattle.day.specs.declared.Counts.{Counts}
use Rattle.day.specs.Frame.{framed_limits}
use Rattle.clearing.specs.Frame.{AskedRows}
use Rattle.parts.specs.Of.{OfDay}
use Rattle.frame.specs.Opened.{Opened}
use Rattle.std.specs.Prelude.{Option, Some, Result, Ok, Err}
use Rattle.stages.specs.Stage.{clean, fault_of}
use Rattle.std.specs.Result.{result_ok}

-- ---- one section

-- where a reader is sure of a section with rows of this size, it is found good, and has so many rows, which lie within the part
pub record Counted (good : Type 0) (size : ℕ) (part : List ℕ) (x : Option ℕ) : Type 0 where
  pub sure : (n : ℕ) → x ≡ Some n → good × ((count part ≡ n) × (2 + size * n ≤ length part))

rows_of : (x : Result ℕ SectionFault) (n : ℕ) → result_ok x ≡ Some n → x ≡ Ok n
rows_of (Ok m) n e = cc
rows_of (Err f) n e = let z : ◌≡◌ {A = ℕ} 0 1 = cc in absurd (omega arith)

-- its head alone
read_is : (least most size : ℕ) (part : List ℕ) (n : ℕ) → Read least most size part n → Head least most size part
read_is least most size part n r =
    let m = r.counted in
    record { counted = omega (arith, r.room); at_least = rw m r.least_is; at_most = rw m r.most_is; room = rw m r.room }

pub head_counted : (least most : ℕ) (part : List ℕ) (x : Result ℕ SectionFault) {y : Option ℕ} {size size' : ℕ} → y ≡ result_ok x → size ≡ size' →
    x ≡ head_of least most size part → Counted (Head least most size' part) size' part y
head_counted least most part x {size' = size} c s e = record {
  sure = λ n q.
      let r = head_read least most size part n (sym (head_same least most part s e) ∙ rows_of x n (sym c ∙ q)) in
      (read_is least most size part n r, (r.counted, r.room));
}

-- its rows too
pub rows_counted : (kind : Kind) (least most periods zones : ℕ) (part : List ℕ) (x : Result ℕ SectionFault) {y : Option ℕ} → y ≡ result_ok x →
    x ≡ rows_at kind least most periods zones part → Counted (GoodRows kind least most periods zones part) (row_size kind periods) part y
rows_counted kind least most periods zones part x c e = record {
  sure = λ n q.
      let size = row_size kind periods in
      let fields = field_count kind periods in
      let ok = field_ok kind periods zones part in
      let m = sym e ∙ rows_of x n (sym c ∙ q) in
      let r = section_read least most size fields ok part n m in
      let stages = file_section day_numbers 0 kind least most periods zones part in
      let none = section_fault day_numbers 0 least most size fields ok part ∙ ap (λ (x : Result ℕ SectionFault). fault_of (reading_of day_numbers 0 x)) m in
      ((section_clean day_numbers 0 least most size fields ok part).0 ((means stages clean).0 none), (r.counted, r.room));
}

-- ---- from a section on

-- what is left of the file is handed on; `next` is what is then known, by the section's count and what is left
pub handed_on : (next : ℕ → List ℕ → Type 0) {good : Type 0} {size n : ℕ} {part left : List ℕ} {x : Option ℕ} →
    Counted good size part x → x ≡ Some n → left ≡ after size part → next n left → good × next (count part) (after size part)
handed_on next {size = size} {n = n} {part = part} h e l k =
    let f = h.sure n e in
    (f.0, subst (λ (m : ℕ). next m (after size part)) (sym f.1.0) (subst (next n) l k))

-- ---- the two chains

abbrev pub FromEnd : Counts → List ℕ → Counts → Type 0
FromEnd counts part c = (counts ≡ c) × (length part ≡ 0)

-- the day file
abbrev pub FromBlocks : ℕ → ℕ → ℕ → ℕ → List ℕ → Counts → Type 0
FromBlocks periods zones lines steps part c =
    HeadRows Blocks 0 most_blocks periods part × FromEnd (counts_of periods zones lines steps (count part)) (after (row_size Blocks periods) part) c

abbrev pub FromSteps : ℕ → ℕ → ℕ → List ℕ → Counts → Type 0
FromSteps periods zones lines part c =
    HeadRows Steps 0 most_steps periods part × FromBlocks periods zones lines (count part) (after (row_size Steps periods) part) c

abbrev pub FromLines : ℕ → ℕ → List ℕ → Counts → Type 0
FromLines periods zones part c = HeadRows Lines 0 most_lines periods part × FromSteps periods zones (count part) (after (row_size Lines periods) part) c

abbrev pub FromZones : ℕ → List ℕ → Counts → Type 0
FromZones periods part c = GoodRows Zones 1 most_zones periods 0 part × FromLines periods (count part) (after (row_size Zones periods) part) c

abbrev pub FromPeriods : List ℕ → Counts → Type 0
FromPeriods day c = GoodRows Periods 1 most_periods 0 0 day × FromZones (count day) (after (row_size Periods 0) day) c

-- the clearing file
abbrev pub FromRatios : Counts → List ℕ → Counts → Type 0
FromRatios counts part c = AskedRows Ratios counts.blocks part × FromEnd counts (after (row_size Ratios 0) part) c

abbrev pub FromVolumes : Counts → List ℕ → Counts → Type 0
FromVolumes counts part c = AskedRows Volumes counts.steps part × FromRatios counts (after (row_size Volumes 0) part) c

abbrev pub FromFlows : Counts → List ℕ → Counts → Type 0
FromFlows counts part c = AskedRows Flows (counts.lines * counts.periods) part × FromVolumes counts (after (row_size Flows 0) part) c

abbrev pub FromPrices : Counts → List ℕ → Counts → Type 0
FromPrices counts clearing c =
    AskedRows Prices (counts.zones * counts.periods) clearing × FromFlows counts (after (row_size Prices 0) clearing) c

-- ---- both files

pub of_day : (day : List ℕ) (c : Counts) → FromPeriods day c → OfDay day c
of_day day c (p, (z, (l, (s, (b, (counted, ended)))))) = record {
  framed = record { periods_head = head p; zones_head = head z; lines_head = l; steps_head = s; blocks_head = b; no_more = ended };
  counted = counted;
}

pub in_limits : (day : List ℕ) (c : Counts) → FromPeriods day c → InLimits c
in_limits day c d = let o = of_day day c d in subst InLimits o.counted (framed_limits o.framed)

pub opened : (day clearing : List ℕ) (c k : Counts) → FromPeriods day c → FromPrices c clearing k → Opened day clearing k
opened day clearing c k d (p, (f, (v, (r, (same, ended))))) =
    subst (Opened day clearing) same (record {
      framed = record {
        of_day = of_day day c d;
        of_clearing = record {
          framed = record { prices_head = p; flows_head = f; volumes_head = v; ratios_head = r; no_more = ended };
          limits = in_limits day c d;
        };
      };
      periods_good = d.0;
      zones_good = d.1.0;
    })
