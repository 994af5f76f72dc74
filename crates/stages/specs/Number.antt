-- The rule paper's numbers. Assumes nothing.
use Rattle.std.specs.Prelude.{ℕ, ◌≡◌, refl, cond, eqb}
use Rattle.stages.specs.declared.Broken.{Broken}
use Rattle.stages.specs.declared.Broken.TheVariants.{DayCutOff, DayCount, DayRow, DayGoesOn, ClearingCutOff, ClearingCount, ClearingRow, ClearingGoesOn, Price, Capacity, Quantity, Balance, Step, Line, Block, Room, Section, Ratio, Whole}

-- the number of what is broken
abbrev pub number : Broken → ℕ
number DayCutOff = 1
number DayCount = 2
number DayRow = 3
number DayGoesOn = 4
number ClearingCutOff = 5
number ClearingCount = 6
number ClearingRow = 7
number ClearingGoesOn = 8
number Price = 11
number Capacity = 12
number Quantity = 13
number Balance = 14
number Step = 15
number Line = 16
number Block = 17
number Room = 18
number Section = 19
number Ratio = 20
number Whole = 21

-- what has this number; any other number stands for the last
abbrev pub broken_by : ℕ → Broken
broken_by n =
    cond (eqb n 1) DayCutOff (
    cond (eqb n 2) DayCount (
    cond (eqb n 3) DayRow (
    cond (eqb n 4) DayGoesOn (
    cond (eqb n 5) ClearingCutOff (
    cond (eqb n 6) ClearingCount (
    cond (eqb n 7) ClearingRow (
    cond (eqb n 8) ClearingGoesOn (
    cond (eqb n 11) Price (
    cond (eqb n 12) Capacity (
    cond (eqb n 13) Quantity (
    cond (eqb n 14) Balance (
    cond (eqb n 15) Step (
    cond (eqb n 16) Line (
    cond (eqb n 17) Block (
    cond (eqb n 18) Room (
    cond (eqb n 19) Section (
    cond (eqb n 20) Ratio Whole)))))))))))))))))

-- no two have one number
pub number_back : (b : Broken) → broken_by (number b) ≡ b
number_back DayCutOff = refl
number_back DayCount = refl
number_back DayRow = refl
number_back DayGoesOn = refl
number_back ClearingCutOff = refl
number_back ClearingCount = refl
number_back ClearingRow = refl
number_back ClearingGoesOn = refl
number_back Price = refl
number_back Capacity = refl
number_back Quantity = refl
number_back Balance = refl
number_back Step = refl
number_back Line = refl
number_back Block = refl
number_back Room = refl
number_back Section = refl
number_back Ratio = refl
number_back Whole = refl
