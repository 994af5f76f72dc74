-- Each section of a day file whose frame is without fault starts as far on as the file is longer than what is left from there. Assumes nothing.
use Rattle.std.specs.Prelude.{ℕ, ◌+◌, ◌*◌, ◌≤◌, ◌≡◌, List, length}
use Rattle.std.proofs.Common.{arith, sym, ap, ◌∙◌, length-drop}
use Rattle.sections.specs.Section.{count, after}
use Rattle.rows.specs.Rows.{row_size}
use Rattle.rows.specs.declared.Kind.TheVariants.{Zones, Lines, Steps}
use Rattle.day.specs.Day.{periods, zones_part, lines_part, steps_part, blocks_part}
use Rattle.day.specs.Frame.{FramedDay}
use Rattle.parts.specs.Of.{zones_at, lines_at, steps_at, blocks_at}
use Rattle.lookup.specs.LookUp.{rows_at}

-- behind a section, by where the section starts
behind : (size : ℕ) (part : List ℕ) (at whole : ℕ) → 2 + size * count part ≤ length part → length part + at ≡ whole →
    length (after size part) + (2 + size * count part + at) ≡ whole
behind size part at whole room e = omega (arith, length-drop (2 + size * count part) part, room, e)

module _ {day : List ℕ} (f : FramedDay day) where
  pub zones_start : length (zones_part day) + zones_at day ≡ length day
  zones_start = omega (arith, length-drop (zones_at day) day, f.periods_head.room)

  pub lines_start : length (lines_part day) + lines_at day ≡ length day
  lines_start = behind (row_size Zones (periods day)) (zones_part day) (zones_at day) (length day) f.zones_head.room zones_start

  pub steps_start : length (steps_part day) + steps_at day ≡ length day
  steps_start = behind (row_size Lines (periods day)) (lines_part day) (lines_at day) (length day) f.lines_head.room lines_start

  pub blocks_start : length (blocks_part day) + blocks_at day ≡ length day
  blocks_start = behind (row_size Steps (periods day)) (steps_part day) (steps_at day) (length day) f.steps_head.room steps_start

-- where the rows of a section start, by its number
pub start_number : (day : List ℕ) {s k n : ℕ} → s ≡ k → n ≡ rows_at k day → n ≡ rows_at s day
start_number day e q = q ∙ ap (λ (n : ℕ). rows_at n day) (sym e)
