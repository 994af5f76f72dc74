-- A row of lines or of blocks: its first fields, and then those of the periods. A row's rule by its kind. Assumes nothing.
use Rattle.std.specs.Prelude.{ℕ, suc, ◌+◌, ◌*◌, ◌≤◌, ◌≡◌, Bool, ◌&&◌, not, List, leb, length}
use Rattle.std.proofs.Common.{arith}
use Rattle.stages.specs.First.{every, or_else, bad_at, first_bad}
use Rattle.stages.proofs.FirstLaws.{every_first}
use Rattle.limits.specs.Fields.{only, counted_on, first_behind, every_behind, first_with_last, every_with_last}
use Rattle.limits.specs.Rules.{ends_rule, block_rule}
use Rattle.limits.specs.Limits.{is_volume}
use Rattle.rows.specs.Rows.{row_size, row_start, field_count, row_fields, field_ok, from, to, capacity, line_fields}
use Rattle.rows.specs.Rows.{block_zone, block_side, block_least, block_price, block_quantity, empty, block_by_itself, block_fields}
use Rattle.rows.specs.declared.Kind.{Kind}
use Rattle.std.specs.Prelude.{Some, None}

-- ---- a line

module _ (periods zones : ℕ) (part : List ℕ) (at : ℕ) where
  abbrev ends : List Bool
  ends = ends_rule zones (from part at) (to part at)

  abbrev capacity_ok : ℕ → Bool
  capacity_ok k = is_volume (capacity part at k)

  pub line_split : every (2 + 2 * periods) (line_fields zones part at) ≡ (every 2 (only ends) && every (2 * periods) capacity_ok)
  line_split = every_behind ends (2 * periods) capacity_ok

  -- the first field that fails: an end, or a capacity
  pub line_first : first_bad (2 + 2 * periods) (line_fields zones part at) ≡ or_else (first_bad 2 (only ends)) (counted_on 2 (first_bad (2 * periods) capacity_ok))
  line_first = first_behind ends (2 * periods) capacity_ok

-- ---- a block

module _ (periods zones : ℕ) (part : List ℕ) (at : ℕ) where
  abbrev head : List Bool
  head = block_rule zones (block_zone part at) (block_side part at) (block_least part at) (block_price part at)

  abbrev quantity_ok : ℕ → Bool
  quantity_ok period = is_volume (block_quantity part at period)

  abbrev some : Bool
  some = not (empty periods part at)

  last_field : 4 + periods ≡ suc (3 + periods)
  last_field = omega arith

  pub block_split : every (4 + periods) (block_fields periods zones part at) ≡ ((every 4 (only head) && every periods quantity_ok) && some)
  block_split = rw (every_with_last (3 + periods) some (block_by_itself zones part at) last_field, every_behind head periods quantity_ok)

  -- the first field that fails: one of the first, or a quantity, or the last where there is no quantity
  pub by_itself : first_bad (4 + periods) (block_by_itself zones part at) ≡ or_else (first_bad 4 (only head)) (counted_on 4 (first_bad periods quantity_ok))
  by_itself = first_behind head periods quantity_ok

  pub block_first : first_bad (4 + periods) (block_fields periods zones part at)
      ≡ or_else (first_bad (4 + periods) (block_by_itself zones part at)) (bad_at some (3 + periods))
  block_first = first_with_last (3 + periods) some (block_by_itself zones part at) last_field

  abbrev none_ok : ℕ → Bool
  none_ok period = leb (block_quantity part at period) 0

  pub some_quantity : {k : ℕ} → Some k ≡ first_bad periods none_ok → None ≡ bad_at some (3 + periods)
  some_quantity e = rw (every_first periods none_ok, ← e)

  pub no_quantity : None ≡ first_bad periods none_ok → Some (3 + periods) ≡ bad_at some (3 + periods)
  no_quantity e = rw (every_first periods none_ok, ← e)

-- ---- a row by its kind, from where it starts

-- its first field that fails
pub row_first : (periods zones : ℕ) (part : List ℕ) (i : ℕ) {kind k : Kind} {at : ℕ} → kind ≡ k → at ≡ row_start kind periods i →
    first_bad (field_count k periods) (row_fields k periods zones part i at) ≡ first_bad (field_count kind periods) (field_ok kind periods zones part i)
unfolding field_ok
row_first periods zones part i e f = rw (← e, f)

-- it lies within the part
pub row_room : (periods i : ℕ) (part : List ℕ) {kind k : Kind} {at : ℕ} → kind ≡ k → at ≡ row_start kind periods i →
    2 + row_size kind periods * (i + 1) ≤ length part → at + row_size k periods ≤ length part
row_room periods i part e f h = rw (← e, f) (omega arith)
