-- The rules of the day file's rows over the values of their fields, field by field in row order. Assumes nothing.
use Rattle.std.specs.Prelude.{ℕ, Bool, ◌&&◌, not, List, [], ◌∷◌, leb, ltb, eqb, ℤ}
use Rattle.std.specs.Int.Signed.{le_z}
use Rattle.limits.specs.Limits.{is_price, is_ratio, is_quantity}

-- 1. Periods: floor, ceiling; floor not above ceiling.
abbrev pub period_rule : ℤ → ℤ → List Bool
period_rule floor ceiling = is_price floor ∷ (is_price ceiling && le_z floor ceiling) ∷ []

-- 2. Zones: code, at least 1, strictly ascending; `before` is the code of the row before, and 0 stands before the first.
abbrev pub zone_rule : ℕ → ℕ → List Bool
zone_rule before code = (leb 1 code && ltb before code) ∷ []

-- 3. Lines: from, to (zone numbers, different); the capacities of the periods come after them.
abbrev pub ends_rule : ℕ → ℕ → ℕ → List Bool
ends_rule zones from to = ltb from zones ∷ (ltb to zones && not (eqb to from)) ∷ []

-- 4. Steps: zone, period, side (0 sell, 1 buy), a spare byte that is 0, price, quantity.
abbrev pub step_rule : ℕ → ℕ → ℕ → ℕ → ℕ → ℕ → ℤ → ℕ → List Bool
step_rule zones periods zone period side spare price quantity =
    ltb zone zones
    ∷ ltb period periods
    ∷ leb side 1
    ∷ eqb spare 0
    ∷ is_price price
    ∷ is_quantity quantity
    ∷ []

-- 5. Blocks: zone, side, least ratio, price; the quantities of the periods come after them.
abbrev pub block_rule : ℕ → ℕ → ℕ → ℕ → ℤ → List Bool
block_rule zones zone side least price = ltb zone zones ∷ leb side 1 ∷ is_ratio least ∷ is_price price ∷ []
