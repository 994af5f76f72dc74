-- The first cell of a table at which a test fails, row by row. Assumes nothing.
use Rattle.std.specs.Prelude.{ℕ, zero, suc, ◌≡◌, Bool}
use Rattle.stages.specs.First.{first_bad}
use Rattle.std.specs.Prelude.{Option, Some, None}

-- ---- what is meant

abbrev pub or_spot : Option (ℕ × ℕ) → Option (ℕ × ℕ) → Option (ℕ × ℕ)
or_spot (Some (z, k)) b = Some (z, k)
or_spot None b = b

-- what the row z finds
abbrev pub in_row : ℕ → Option ℕ → Option (ℕ × ℕ)
in_row z (Some k) = Some (z, k)
in_row z None = None

-- the first row below rows, and in it the first column below cols, at which the test fails
abbrev pub first_cell : ℕ → ℕ → (ℕ → ℕ → Bool) → Option (ℕ × ℕ)
first_cell zero cols t = None
first_cell (suc rows) cols t = or_spot (first_cell rows cols t) (in_row rows (first_bad cols (t rows)))

-- ---- what a nested loop knows on its way

-- the test holds in each row below z
pub record RowsPassed (t : ℕ → ℕ → Bool) (cols z : ℕ) : Type 0 where
  pub nowhere : first_cell z cols t ≡ None
