-- Which field a refusal names: fields of day A and clearing A out of range, by themselves or against those before them, and of a day of two
-- periods. Tables; the statement about them is in proofs/FieldsShown. Assumes nothing.
use Rattle.std.specs.Prelude.{ℕ, ◌+◌, List, [], ◌∷◌, ◌++◌, pos, neg_ℤ, length, take, drop}
use Rattle.stages.specs.Stage.{field_place}
use Rattle.wire.specs.Bytes.{bytes16, bytes32}
use Rattle.cases.specs.Files.{i32, day_a, clearing_a}
use Rattle.cases.specs.Cases.{Case}
use Rattle.std.specs.Prelude.{Err}
use Rattle.verdict.specs.Verdict.{Outcome}

-- a file with other bytes from a place on
abbrev put : ℕ → List ℕ → List ℕ → List ℕ
put at bytes file = take at file ++ bytes ++ drop (at + length bytes) file

-- the refusal by a field of a row of a section
abbrev field : ℕ → ℕ → ℕ → ℕ → Outcome
field number section row f = Err (number, field_place section row f)

-- in day A the periods' rows start at the byte 2, the zones' at 12, the lines' at 18, the steps' at 30 and the blocks' at 80
abbrev in_day : ℕ → List ℕ → Outcome → Case
in_day at bytes outcome = record { day = put at bytes (day_a 300 4500); clearing = clearing_a (pos 2000) 5000 500 900 400 200 700 0; outcome = outcome }

-- in clearing A the prices start at 2, the flow at 12, the volumes at 18 and the block's ratio at 36
abbrev in_clearing : ℕ → List ℕ → Outcome → Case
in_clearing at bytes outcome = record { day = day_a 300 4500; clearing = put at bytes (clearing_a (pos 2000) 5000 500 900 400 200 700 0); outcome = outcome }

-- two periods, two zones, one line with its capacities forward and back of each period, no steps, one block with its two quantities
abbrev two_periods : ℕ → ℕ → ℕ → ℕ → ℕ → ℕ → List ℕ
two_periods forward0 back0 forward1 back1 quantity0 quantity1 =
    bytes16 2
    ++ (i32 (pos 0) ++ i32 (pos 300000) ++ i32 (pos 0) ++ i32 (pos 300000))
    ++ bytes16 2
    ++ (bytes16 10 ++ bytes16 20)
    ++ bytes16 1
    ++ ((0 ∷ 1 ∷ []) ++ bytes32 forward0 ++ bytes32 back0 ++ bytes32 forward1 ++ bytes32 back1)
    ++ bytes16 0
    ++ bytes16 1
    ++ ((0 ∷ 0 ∷ 0 ∷ 0 ∷ []) ++ i32 (pos 100) ++ bytes32 quantity0 ++ bytes32 quantity1)

abbrev in_two : List ℕ → Outcome → Case
in_two day outcome = record { day = day; clearing = []; outcome = outcome }

abbrev pub of_network : List Case
of_network =
    -- a floor too high; a ceiling below its floor; both out of range
    in_day 2 (i32 (pos 1000001)) (field 3 1 0 0)
    ∷ in_day 6 (i32 (neg_ℤ (pos 50001))) (field 3 1 0 1)
    ∷ in_day 2 (i32 (pos 1000001) ++ i32 (pos 1000001)) (field 3 1 0 0)
    -- a code that is not above the one before it
    ∷ in_day 14 (bytes16 10) (field 3 2 1 0)
    -- a line from a zone that is not there; to one; to where it comes from; forward; back; both
    ∷ in_day 18 (2 ∷ []) (field 3 3 0 0)
    ∷ in_day 19 (2 ∷ []) (field 3 3 0 1)
    ∷ in_day 19 (0 ∷ []) (field 3 3 0 1)
    ∷ in_day 20 (bytes32 1000001) (field 3 3 0 2)
    ∷ in_day 24 (bytes32 1000001) (field 3 3 0 3)
    ∷ in_day 20 (bytes32 1000001 ++ bytes32 1000001) (field 3 3 0 2)
    ∷ []

abbrev pub of_step : List Case
of_step =
    -- the fields of the step 1, one by one; the spare byte and the price; the quantity and the zone of the step behind it
    in_day 42 (2 ∷ []) (field 3 4 1 0)
    ∷ in_day 43 (1 ∷ []) (field 3 4 1 1)
    ∷ in_day 44 (2 ∷ []) (field 3 4 1 2)
    ∷ in_day 45 (1 ∷ []) (field 3 4 1 3)
    ∷ in_day 46 (i32 (neg_ℤ (pos 1000001))) (field 3 4 1 4)
    ∷ in_day 50 (bytes32 0) (field 3 4 1 5)
    ∷ in_day 45 ((1 ∷ []) ++ i32 (pos 1000001)) (field 3 4 1 3)
    ∷ in_day 50 (bytes32 0 ++ (2 ∷ [])) (field 3 4 1 5)
    ∷ []

abbrev pub of_block : List Case
of_block =
    -- the fields of the block, one by one; no quantity; no quantity and a least ratio above 1,000
    in_day 80 (2 ∷ []) (field 3 5 0 0)
    ∷ in_day 81 (2 ∷ []) (field 3 5 0 1)
    ∷ in_day 82 (bytes16 1001) (field 3 5 0 2)
    ∷ in_day 84 (i32 (pos 1000001)) (field 3 5 0 3)
    ∷ in_day 88 (bytes32 1000001) (field 3 5 0 4)
    ∷ in_day 88 (bytes32 0) (field 3 5 0 4)
    ∷ in_day 82 (bytes16 1001 ++ i32 (pos 100) ++ bytes32 0) (field 3 5 0 2)
    ∷ []

abbrev pub of_two_periods : List Case
of_two_periods =
    -- capacities and quantities of the second period count on
    in_two (two_periods 1 1 1000001 1 1 1) (field 3 3 0 4)
    ∷ in_two (two_periods 1 1 1 1000001 1 1) (field 3 3 0 5)
    ∷ in_two (two_periods 1 1000001 1000001 1 1 1) (field 3 3 0 3)
    ∷ in_two (two_periods 1 1 1 1 1 1000001) (field 3 5 0 5)
    ∷ in_two (two_periods 1 1 1 1 0 0) (field 3 5 0 5)
    ∷ in_two (two_periods 1 1 1 1 1000001 0) (field 3 5 0 4)
    ∷ []

abbrev pub of_clearing : List Case
of_clearing =
    -- a clearing's rows have one field
    in_clearing 6 (i32 (neg_ℤ (pos 1000001))) (field 7 1 1 0)
    ∷ in_clearing 12 (i32 (pos 1000001)) (field 7 2 0 0)
    ∷ in_clearing 30 (bytes32 1000001) (field 7 3 3 0)
    ∷ in_clearing 36 (bytes16 1001) (field 7 4 0 0)
    ∷ []
