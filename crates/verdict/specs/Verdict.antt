-- The verdict on a day file and a clearing file, what it leaves in the lent room, and what each of its cases gives. Assumes nothing.
use Rattle.std.specs.Prelude.{ℕ, ◌≡◌, List, [], ◌∷◌, ◌++◌, leb, pos, length, drop}
use Rattle.stages.specs.Stage.{Stage, once, place, judged}
use Rattle.stages.specs.declared.Place.{Place}
use Rattle.market.specs.Market.{Day, Choice, Prices, totals}
use Rattle.market.specs.Rules.{rule_stages}
use Rattle.market.specs.declared.Totals.{Totals}
use Rattle.day.specs.Day.{counts}
use Rattle.clearing.specs.Clearing.{file_stages}
use Rattle.book.specs.Book as book
use Rattle.statement.specs.Statement.{statement_length}
use Rattle.statement.specs.Of.{net_count, statement_with}
use Rattle.std.specs.Prelude.{Result, Ok, Err}
use Rattle.stages.specs.declared.Refusal.{Refusal}

-- what is said of two files: their totals, or the number and the place of the first fault
abbrev pub Outcome : Type 0
Outcome = Result Totals Refusal

-- ---- what two files say

abbrev pub day_of : List ℕ → Day
day_of day = book.day_of (counts day) day

abbrev pub prices_of : List ℕ → List ℕ → Prices
prices_of day clearing = book.prices_of (counts day) clearing

abbrev pub choice_of : List ℕ → List ℕ → Choice
choice_of day clearing = book.choice_of (counts day) clearing

abbrev pub totals_of : List ℕ → List ℕ → Totals
totals_of day clearing = totals (day_of day) (prices_of day clearing) (choice_of day clearing)

-- the statement's bytes, and how many they are
abbrev pub statement_of : List ℕ → List ℕ → List ℕ
statement_of day clearing = statement_with (counts day) day clearing (totals_of day clearing)

abbrev pub statement_length_of : List ℕ → ℕ
statement_length_of day = statement_length (net_count (counts day))

-- ---- all refusals, in the order in which they are looked for

-- 18: the room is shorter than the statement
abbrev pub room_stage : List ℕ → ℕ → Stage
room_stage day room = once 18 (place 0 0) (leb (statement_length_of day) room)

-- 1 to 8: the files. 11 to 13, 20, 21, 14 to 17: the rules. 18: the room, of so many bytes
abbrev pub stages : List ℕ → List ℕ → ℕ → List Stage
stages day clearing room =
    file_stages day clearing
    ++ (rule_stages (day_of day) (prices_of day clearing) (choice_of day clearing) ++ (room_stage day room ∷ []))

-- ---- the verdict

-- the number and the place of the first fault, or the totals
abbrev pub verdict : List ℕ → List ℕ → ℕ → Outcome
verdict day clearing room = judged (totals_of day clearing) (stages day clearing room)

-- what it leaves in the room: the statement and the bytes behind it as they were, or all as it was
abbrev pub leaves : List ℕ → List ℕ → Outcome → List ℕ → List ℕ
leaves day clearing (Ok t) room = statement_of day clearing ++ drop (statement_length_of day) room
leaves day clearing (Err (number, place)) room = room

-- a call of `check`: the two files, the room before it, its outcome, the room after it
pub record Checked (day clearing before : List ℕ) (outcome : Outcome) (after : List ℕ) : Type 0 where
  pub said : outcome ≡ verdict day clearing (length before)
  pub left : after ≡ leaves day clearing outcome before

-- ---- what each case gives: the paper's number, its place, its totals

abbrev pub number_of : Outcome → ℕ
number_of (Ok t) = 0
number_of (Err (number, place)) = number

abbrev pub place_of : Outcome → Place
place_of (Ok t) = place 0 0
place_of (Err (number, place)) = place

abbrev pub zeros : Totals
zeros = record { value = pos 0; buyers = pos 0; sellers = pos 0; rent = pos 0; traded = pos 0; shortfall = pos 0 }

-- of any refusal, also one whose number the paper lacks
abbrev pub given_totals : {E : Type 0} → Result Totals E → Totals
given_totals (Ok t) = t
given_totals (Err e) = zeros
