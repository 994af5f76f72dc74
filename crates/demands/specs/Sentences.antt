-- What an acceptance and a refusal mean, as sentences about two files and a room. Assumes nothing.
use Rattle.std.specs.Prelude.{ℕ, ◌+◌, ◌*◌, ◌<◌, ◌≤◌, ◌≡◌, List, get_or, length}
use Rattle.stages.specs.Lists.{turn_in}
use Rattle.wire.specs.Bytes.{u16_at, i32_at, i64_at}
use Rattle.market.specs.Market.{net_position, order_value, buyer_surplus, seller_surplus, rent, traded_volume, shortfall}
use Rattle.market.specs.Rules.{Lawful, Obeys, number, order, rows, columns}
use Rattle.market.specs.declared.Rule.{Rule}
use Rattle.market.specs.declared.Totals.{Totals}
use Rattle.day.specs.Day.{counts}
use Rattle.day.specs.Good.{GoodDay}
use Rattle.clearing.specs.Good.{GoodClearing}
use Rattle.verdict.specs.Verdict.{day_of, prices_of, choice_of, totals_of, statement_length_of}

-- ---- what is accepted

-- both files read without fault, every rule holds, and the room has at least the statement's length
pub record Passes (day clearing : List ℕ) (room : ℕ) : Type 0 where
  pub day_reads : GoodDay day
  pub clearing_reads : GoodClearing (counts day) clearing
  pub rules_hold : Lawful (day_of day) (prices_of day clearing) (choice_of day clearing)
  pub room_suffices : statement_length_of day ≤ room

-- ---- what is refused

-- a rule's turn: how many rules are looked for before it
abbrev pub turn : Rule → ℕ
turn rule = turn_in order (number rule)

-- both files read without fault, this rule is the first that is broken, and this is the first place at which it is
pub record FirstBreach (day clearing : List ℕ) (rule : Rule) (row col : ℕ) : Type 0 where
  pub day_reads : GoodDay day
  pub clearing_reads : GoodClearing (counts day) clearing
  -- the rules whose turn comes before hold at all their places
  pub earlier : (r : Rule) → turn r < turn rule → (i j : ℕ) → i < rows (day_of day) r → j < columns (day_of day) r →
      Obeys (day_of day) (prices_of day clearing) (choice_of day clearing) r i j
  -- this one is broken at this place, and at no place before it
  pub row_is : row < rows (day_of day) rule
  pub col_is : col < columns (day_of day) rule
  pub broken : ¬ (Obeys (day_of day) (prices_of day clearing) (choice_of day clearing) rule row col)
  pub above : (i j : ℕ) → i < row → j < columns (day_of day) rule → Obeys (day_of day) (prices_of day clearing) (choice_of day clearing) rule i j
  pub left : (j : ℕ) → j < col → Obeys (day_of day) (prices_of day clearing) (choice_of day clearing) rule row j

-- both files read without fault, every rule holds, and the room is shorter than the statement
pub record TooShort (day clearing : List ℕ) (room : ℕ) : Type 0 where
  pub day_reads : GoodDay day
  pub clearing_reads : GoodClearing (counts day) clearing
  pub rules_hold : Lawful (day_of day) (prices_of day clearing) (choice_of day clearing)
  pub room_lacks : room < statement_length_of day

-- ---- what is stated

-- what an acceptance states: the totals it gives are the defined ones, and so are the numbers that stand in the room after it. The bytes
-- behind the statement are as before, and so is the room's length.
pub record Stated (day clearing before : List ℕ) (t : Totals) (after : List ℕ) : Type 0 where
  pub totals_are : t ≡ totals_of day clearing
  pub six : u16_at after 0 ≡ 6
  pub value_at : i64_at after 2 ≡ order_value (day_of day) (choice_of day clearing)
  pub buyers_at : i64_at after 10 ≡ buyer_surplus (day_of day) (prices_of day clearing) (choice_of day clearing)
  pub sellers_at : i64_at after 18 ≡ seller_surplus (day_of day) (prices_of day clearing) (choice_of day clearing)
  pub rent_at : i64_at after 26 ≡ rent (day_of day) (prices_of day clearing) (choice_of day clearing)
  pub traded_at : i64_at after 34 ≡ traded_volume (day_of day) (choice_of day clearing)
  pub shortfall_at : i64_at after 42 ≡ shortfall (day_of day) (prices_of day clearing) (choice_of day clearing)
  pub count_at : u16_at after 50 ≡ (day_of day).zones * (day_of day).periods
  pub net_at : (zone period : ℕ) → zone < (day_of day).zones → period < (day_of day).periods →
      i32_at after (52 + 4 * (zone * (day_of day).periods + period)) ≡ net_position (day_of day) (choice_of day clearing) zone period
  pub behind : (i : ℕ) → statement_length_of day ≤ i → get_or after i 0 ≡ get_or before i 0
  pub same_length : length after ≡ length before
