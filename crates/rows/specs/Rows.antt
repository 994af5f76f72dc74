-- The rows of the sections of both files: how long they are, where their fields stand, and their rules: a test for each field, by its
-- number in the row from 0.
-- `part` is the file from the section's count on, and `at` the place in it at which the row starts. Assumes nothing.
use Rattle.std.specs.Prelude.{ℕ, ◌+◌, ◌*◌, ◌-◌, Bool, true, false, not, List, [], ◌∷◌, leb, eqb, ℤ}
use Rattle.wire.specs.Bytes.{u8_at, u16_at, u32_at, i32_at}
use Rattle.stages.specs.First.{every}
use Rattle.limits.specs.Fields.{behind, only, with_last}
use Rattle.limits.specs.Limits.{is_price, is_flow, is_volume, is_ratio}
use Rattle.limits.specs.Rules.{period_rule, zone_rule, ends_rule, step_rule, block_rule}
use Rattle.rows.specs.declared.Kind.{Kind}
use Rattle.rows.specs.declared.Kind.TheVariants.{Periods, Zones, Lines, Steps, Blocks, Prices, Flows, Volumes, Ratios}

-- the bytes of a row, where the day has so many periods
abbrev pub row_size : Kind → ℕ → ℕ
row_size Periods periods = 8
row_size Zones periods = 2
row_size Lines periods = 2 + 8 * periods
row_size Steps periods = 12
row_size Blocks periods = 8 + 4 * periods
row_size Prices periods = 4
row_size Flows periods = 4
row_size Volumes periods = 4
row_size Ratios periods = 2

-- where the row i starts: behind the count and the rows before it
abbrev pub row_start : Kind → ℕ → ℕ → ℕ
row_start kind periods i = 2 + row_size kind periods * i

-- ==== the day file

-- ---- 1. Periods: floor i32, ceiling i32; floor not above ceiling.

abbrev pub floor : List ℕ → ℕ → ℤ
floor part at = i32_at part at

abbrev pub ceiling : List ℕ → ℕ → ℤ
ceiling part at = i32_at part (at + 4)

abbrev pub period_fields : List ℕ → ℕ → ℕ → Bool
period_fields part at = only (period_rule (floor part at) (ceiling part at))

-- ---- 2. Zones: code u16, at least 1, strictly ascending.

abbrev pub code : List ℕ → ℕ → ℕ
code part at = u16_at part at

-- the code of the row before; before the first stands 0
abbrev pub pick_n : Bool → ℕ → ℕ → ℕ
pick_n true a b = a
pick_n false a b = b

abbrev pub code_before : List ℕ → ℕ → ℕ → ℕ
code_before part i at = pick_n (eqb i 0) 0 (u16_at part (at - 2))

abbrev pub zone_fields : List ℕ → ℕ → ℕ → ℕ → Bool
zone_fields part i at = only (zone_rule (code_before part i at) (code part at))

-- ---- 3. Lines: from u8, to u8 (zone numbers, different), then for each period forward capacity u32, back capacity u32.

abbrev pub from : List ℕ → ℕ → ℕ
from part at = u8_at part at

abbrev pub to : List ℕ → ℕ → ℕ
to part at = u8_at part (at + 1)

abbrev pub forward : List ℕ → ℕ → ℕ → ℕ
forward part at period = u32_at part (at + 2 + 8 * period)

abbrev pub back : List ℕ → ℕ → ℕ → ℕ
back part at period = u32_at part (at + 6 + 8 * period)

-- the capacities one after the other: forward and back of period 0, of period 1, and so on
abbrev pub capacity : List ℕ → ℕ → ℕ → ℕ
capacity part at k = u32_at part (at + 2 + 4 * k)

abbrev pub line_fields : ℕ → List ℕ → ℕ → ℕ → Bool
line_fields zones part at = behind (ends_rule zones (from part at) (to part at)) (λ k. is_volume (capacity part at k))

-- ---- 4. Steps: zone u8, period u8, side u8 (0 sell, 1 buy), a spare byte that is 0, price i32, quantity u32.

abbrev pub step_zone : List ℕ → ℕ → ℕ
step_zone part at = u8_at part at

abbrev pub step_period : List ℕ → ℕ → ℕ
step_period part at = u8_at part (at + 1)

abbrev pub step_side : List ℕ → ℕ → ℕ
step_side part at = u8_at part (at + 2)

abbrev pub step_spare : List ℕ → ℕ → ℕ
step_spare part at = u8_at part (at + 3)

abbrev pub step_price : List ℕ → ℕ → ℤ
step_price part at = i32_at part (at + 4)

abbrev pub step_quantity : List ℕ → ℕ → ℕ
step_quantity part at = u32_at part (at + 8)

abbrev pub step_fields : ℕ → ℕ → List ℕ → ℕ → ℕ → Bool
step_fields periods zones part at =
    only
    (step_rule zones periods (step_zone part at) (step_period part at) (step_side part at) (step_spare part at) (step_price part at) (step_quantity part at))

-- ---- 5. Blocks: zone u8, side u8, least ratio u16 from 0 to 1,000, price i32, then a quantity u32 for each period; at least one quantity above
-- 0.

abbrev pub block_zone : List ℕ → ℕ → ℕ
block_zone part at = u8_at part at

abbrev pub block_side : List ℕ → ℕ → ℕ
block_side part at = u8_at part (at + 1)

abbrev pub block_least : List ℕ → ℕ → ℕ
block_least part at = u16_at part (at + 2)

abbrev pub block_price : List ℕ → ℕ → ℤ
block_price part at = i32_at part (at + 4)

abbrev pub block_quantity : List ℕ → ℕ → ℕ → ℕ
block_quantity part at period = u32_at part (at + 8 + 4 * period)

-- no quantity is above 0
abbrev pub empty : ℕ → List ℕ → ℕ → Bool
empty periods part at = every periods (λ period. leb (block_quantity part at period) 0)

-- each field by itself
abbrev pub block_by_itself : ℕ → List ℕ → ℕ → ℕ → Bool
block_by_itself zones part at =
    behind
    (block_rule zones (block_zone part at) (block_side part at) (block_least part at) (block_price part at))
    (λ period. is_volume (block_quantity part at period))

-- where no quantity is above 0, that is the fault of the last field
abbrev pub block_fields : ℕ → ℕ → List ℕ → ℕ → ℕ → Bool
block_fields periods zones part at = with_last (3 + periods) (not (empty periods part at)) (block_by_itself zones part at)

-- ==== the clearing file, whose rows have one field

-- ---- 1. Prices: i32.

abbrev pub price_fields : List ℕ → ℕ → ℕ → Bool
price_fields part at = only (is_price (i32_at part at) ∷ [])

-- ---- 2. Flows: i32 from -1,000,000 to 1,000,000.

abbrev pub flow_fields : List ℕ → ℕ → ℕ → Bool
flow_fields part at = only (is_flow (i32_at part at) ∷ [])

-- ---- 3. Steps: accepted volume u32, at most 1,000,000.

abbrev pub volume_fields : List ℕ → ℕ → ℕ → Bool
volume_fields part at = only (is_volume (u32_at part at) ∷ [])

-- ---- 4. Blocks: ratio u16, 0 to 1,000.

abbrev pub ratio_fields : List ℕ → ℕ → ℕ → Bool
ratio_fields part at = only (is_ratio (u16_at part at) ∷ [])

-- ==== a row's rule: each of its fields passes its test

-- how many fields a row has
abbrev pub field_count : Kind → ℕ → ℕ
field_count Periods periods = 2
field_count Zones periods = 1
field_count Lines periods = 2 + 2 * periods
field_count Steps periods = 6
field_count Blocks periods = 4 + periods
field_count Prices periods = 1
field_count Flows periods = 1
field_count Volumes periods = 1
field_count Ratios periods = 1

-- the test of each, in the row i, which starts at `at`
abbrev pub row_fields : Kind → ℕ → ℕ → List ℕ → ℕ → ℕ → ℕ → Bool
row_fields Periods periods zones part i at = period_fields part at
row_fields Zones periods zones part i at = zone_fields part i at
row_fields Lines periods zones part i at = line_fields zones part at
row_fields Steps periods zones part i at = step_fields periods zones part at
row_fields Blocks periods zones part i at = block_fields periods zones part at
row_fields Prices periods zones part i at = price_fields part at
row_fields Flows periods zones part i at = flow_fields part at
row_fields Volumes periods zones part i at = volume_fields part at
row_fields Ratios periods zones part i at = ratio_fields part at

-- the field f of the row i passes its test
unfoldable pub field_ok : Kind → ℕ → ℕ → List ℕ → ℕ → ℕ → Bool
field_ok kind periods zones part i = row_fields kind periods zones part i (row_start kind periods i)

abbrev pub row_ok : Kind → ℕ → ℕ → List ℕ → ℕ → Bool
row_ok kind periods zones part i = every (field_count kind periods) (field_ok kind periods zones part i)
