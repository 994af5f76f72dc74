-- Day A, clearing A and what the cases change in them, written section by section as the rule paper lays out the files. Assumes nothing.
use Rattle.std.specs.Prelude.{ℕ, List, [], ◌∷◌, ◌++◌, ℤ, pos, neg_ℤ}
use Rattle.wire.specs.Bytes.{bits32, bytes16, bytes32}

-- a price or a flow
abbrev pub i32 : ℤ → List ℕ
i32 v = bytes32 (bits32 v)

-- zone, period, side (0 sell, 1 buy), a spare byte, price, quantity
abbrev pub step_row : ℕ → ℕ → ℕ → ℕ → ℕ → List ℕ
step_row zone period side price quantity = (zone ∷ period ∷ side ∷ 0 ∷ []) ++ i32 (pos price) ++ bytes32 quantity

-- of one period: zone, side, least ratio, price, quantity
abbrev pub block_row : ℕ → ℕ → ℕ → ℕ → ℕ → List ℕ
block_row zone side least price quantity = (zone ∷ side ∷ []) ++ bytes16 least ++ i32 (pos price) ++ bytes32 quantity

-- One period, floor -50,000, ceiling 300,000. Zones 10 and 20. One line from zone 0 to zone 1, forward 500, back 200. Steps: 0 sells 1,000
-- at 2,000 in zone 0; 1 buys 400 at 3,000 in zone 0; 2 sells 800 at 5,000 in zone 1; 3 buys 700 at 9,000 in zone 1. Block 0 sells in zone 1.
-- Its least ratio, its quantity and its price are given.
abbrev pub day_with : ℕ → ℕ → ℕ → List ℕ
day_with least quantity price =
    bytes16 1
    ++ (i32 (neg_ℤ (pos 50000)) ++ i32 (pos 300000))
    ++ bytes16 2
    ++ (bytes16 10 ++ bytes16 20)
    ++ bytes16 1
    ++ ((0 ∷ 1 ∷ []) ++ bytes32 500 ++ bytes32 200)
    ++ bytes16 4
    ++ step_row 0 0 0 2000 1000
    ++ step_row 0 0 1 3000 400
    ++ step_row 1 0 0 5000 800
    ++ step_row 1 0 1 9000 700
    ++ bytes16 1
    ++ block_row 1 0 least price quantity

-- with a least ratio of 0, which stands for 1,000
abbrev pub day_a : ℕ → ℕ → List ℕ
day_a = day_with 0

-- two prices, a flow, four accepted volumes, and the bytes of the block's row
abbrev pub clearing_with : ℤ → ℕ → ℕ → ℕ → ℕ → ℕ → ℕ → List ℕ → List ℕ
clearing_with price0 price1 flow step0 step1 step2 step3 block =
    bytes16 2
    ++ (i32 price0 ++ i32 (pos price1))
    ++ bytes16 1
    ++ i32 (pos flow)
    ++ bytes16 4
    ++ (bytes32 step0 ++ bytes32 step1 ++ bytes32 step2 ++ bytes32 step3)
    ++ bytes16 1
    ++ block

-- the block's ratio
abbrev pub clearing_a : ℤ → ℕ → ℕ → ℕ → ℕ → ℕ → ℕ → ℕ → List ℕ
clearing_a price0 price1 flow step0 step1 step2 step3 ratio = clearing_with price0 price1 flow step0 step1 step2 step3 (bytes16 ratio)

-- one zone, one period, no lines or orders, and a price
abbrev pub empty_day : List ℕ
empty_day = bytes16 1 ++ (i32 (neg_ℤ (pos 50000)) ++ i32 (pos 300000)) ++ bytes16 1 ++ bytes16 10 ++ bytes16 0 ++ bytes16 0 ++ bytes16 0

abbrev pub empty_clearing : ℕ → List ℕ
empty_clearing price = bytes16 1 ++ i32 (pos price) ++ bytes16 0 ++ bytes16 0 ++ bytes16 0
