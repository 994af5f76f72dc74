-- A day file whose frame is without fault, with its counts in hand, and what is then known of each of its sections. Assumes nothing.
use Rattle.std.specs.Prelude.{ℕ, ◌+◌, ◌*◌, ◌≤◌, ◌≡◌, refl, List, length}
use Rattle.std.proofs.Common.{add_assoc, arith, subst}
use Rattle.sections.specs.Section.{count, after, rows, onward}
use Rattle.limits.specs.Limits.{most_periods}
use Rattle.rows.specs.Rows.{row_size}
use Rattle.rows.specs.declared.Kind.{Kind}
use Rattle.rows.specs.declared.Kind.TheVariants.{Periods, Zones, Lines, Steps, Blocks}
use Rattle.reader.specs.Reader.{HeadRows}
use Rattle.day.specs.declared.Counts.{Counts}
use Rattle.day.specs.Day.{periods, zones, zones_part, lines_part, steps_part, blocks_part, counts}
use Rattle.day.specs.Frame.{FramedDay}

-- ---- where the sections of a day file start

abbrev pub zones_at : List ℕ → ℕ
zones_at day = 2 + row_size Periods 0 * periods day

abbrev pub lines_at : List ℕ → ℕ
lines_at day = 2 + row_size Zones (periods day) * zones day + zones_at day

abbrev pub steps_at : List ℕ → ℕ
steps_at day = 2 + row_size Lines (periods day) * count (lines_part day) + lines_at day

abbrev pub blocks_at : List ℕ → ℕ
blocks_at day = 2 + row_size Steps (periods day) * count (steps_part day) + steps_at day

-- ---- the counts in hand

pub record OfDay (day : List ℕ) (c : Counts) : Type 0 where
  pub framed : FramedDay day
  pub counted : counts day ≡ c

-- a section's n rows lie within the part that starts with its count
abbrev pub Sized : Kind → ℕ → List ℕ → ℕ → Type 0
Sized kind periods part n = (periods ≤ most_periods) × ((count part ≡ n) × (2 + row_size kind periods * n ≤ length part))

module _ {day : List ℕ} {c : Counts} (o : OfDay day c) where
  -- a section, by its head in the whole file and the count in hand
  sized : (kind : Kind) (least most : ℕ) (field : Counts → ℕ) (whole : List ℕ) → HeadRows kind least most (periods day) whole →
      count whole ≡ field (counts day) → {part : List ℕ} → part ≡ whole → Sized kind c.periods part (field c)
  sized kind least most field whole g e {part} q =
      rw q (subst (λ (k : Counts). Sized kind k.periods whole (field k)) o.counted
      (o.framed.periods_head.at_most, (e, subst (λ (n : ℕ). 2 + row_size kind (periods day) * n ≤ length whole) e g.room)))

  pub periods_sized : Sized Periods 0 day c.periods
  periods_sized =
      subst (λ (k : Counts). Sized Periods 0 day k.periods) o.counted (omega arith, (refl, o.framed.periods_head.room))

  pub zones_sized : {part : List ℕ} → part ≡ zones_part day → Sized Zones c.periods part c.zones
  zones_sized = sized Zones _ _ (λ k. k.zones) (zones_part day) o.framed.zones_head refl

  pub lines_sized : {part : List ℕ} → part ≡ lines_part day → Sized Lines c.periods part c.lines
  lines_sized = sized Lines _ _ (λ k. k.lines) (lines_part day) o.framed.lines_head refl

  pub steps_sized : {part : List ℕ} → part ≡ steps_part day → Sized Steps c.periods part c.steps
  steps_sized = sized Steps _ _ (λ k. k.steps) (steps_part day) o.framed.steps_head refl

  pub blocks_sized : {part : List ℕ} → part ≡ blocks_part day → Sized Blocks c.periods part c.blocks
  blocks_sized = sized Blocks _ _ (λ k. k.blocks) (blocks_part day) o.framed.blocks_head refl

  -- what comes after a section, and its rows, by the periods in hand
  pub after_same : (kind : Kind) {part whole : List ℕ} → part ≡ whole → after (row_size kind c.periods) part ≡ after (row_size kind (periods day)) whole
  after_same kind q = rw (q, ← o.counted)

  pub rows_same : (kind : Kind) {part whole : List ℕ} → part ≡ whole → rows (row_size kind c.periods) part ≡ rows (row_size kind (periods day)) whole
  rows_same kind q = rw (q, ← o.counted)

  -- a part stands as far on as the file's own counts say: behind the first section, and behind another
  pub stands_first : (size : Counts → ℕ) (file : ℕ × ℕ) {next : ℕ × ℕ} → next ≡ onward (size c) file → next ≡ onward (size (counts day)) file
  stands_first size file q = rw (q, ← o.counted)

  pub stands_behind : (size : Counts → ℕ) (at : ℕ) (file : ℕ × ℕ) {part next : ℕ × ℕ} → part ≡ onward at file → next ≡ onward (size c) part →
      next ≡ onward (size (counts day) + at) file
  stands_behind size at file p q = rw (q, p, ← o.counted, add_assoc (size (counts day)) at file.1)
