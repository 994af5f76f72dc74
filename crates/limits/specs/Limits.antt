-- The limits of the rule paper, by name. Prices are hundredths of a euro per MWh, volumes and flows tenths of a MW. Assumes nothing.
use Rattle.std.specs.Prelude.{ℕ, Bool, ◌&&◌, leb, ℤ, pos, neg_ℤ}
use Rattle.std.specs.Int.Signed.{le_z}

-- the most rows of a section; there is at least one period and one zone
abbrev pub most_periods : ℕ
most_periods = 25

abbrev pub most_zones : ℕ
most_zones = 8

abbrev pub most_lines : ℕ
most_lines = 16

abbrev pub most_steps : ℕ
most_steps = 2000

abbrev pub most_blocks : ℕ
most_blocks = 100

-- the highest price, the largest flow, and the largest volume, which is also the largest quantity and the largest capacity
abbrev pub most_price : ℕ
most_price = 1000000

abbrev pub most_flow : ℕ
most_flow = 1000000

abbrev pub most_volume : ℕ
most_volume = 1000000

-- a ratio is in thousandths: all of a block
abbrev pub most_ratio : ℕ
most_ratio = 1000

-- any price: -1,000,000 to 1,000,000
abbrev pub is_price : ℤ → Bool
is_price p = le_z (neg_ℤ (pos most_price)) p && le_z p (pos most_price)

-- any flow: -1,000,000 to 1,000,000
abbrev pub is_flow : ℤ → Bool
is_flow f = le_z (neg_ℤ (pos most_flow)) f && le_z f (pos most_flow)

-- accepted volume, block quantity in a period, line capacity: 0 to 1,000,000
abbrev pub is_volume : ℕ → Bool
is_volume v = leb v most_volume

-- ratio, least ratio: 0 to 1,000
abbrev pub is_ratio : ℕ → Bool
is_ratio r = leb r most_ratio

-- step quantity: 1 to 1,000,000
abbrev pub is_quantity : ℕ → Bool
is_quantity v = leb 1 v && leb v most_volume
