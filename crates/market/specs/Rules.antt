-- The rules of a clearing, 11 to 17, 20 and 21: each as a sentence in the rule paper's words, at one place and at all of them, and as the
-- test that is made at one place. That a test passes just where its sentence holds is proved in proofs/RuleLaws. Assumes nothing.
use Rattle.std.specs.Prelude.{ℕ, ◌*◌, ◌%◌, ◌<◌, ◌≤◌, ◌≡◌, Bool, ◌&&◌, ◌||◌, List, [], ◌∷◌, leb, eqb, ℤ, pos, neg_ℤ, ◌-ℤ◌, ◌*ℤ◌}
use Rattle.std.specs.Int.Signed.{le_z}
use Rattle.whole.specs.Whole.{◌≼◌, ◌≺◌, sum}
use Rattle.stages.specs.Stage.{Stage, place}
use Rattle.limits.specs.Limits.{most_ratio}
use Rattle.market.specs.Market.{Day, Choice, Prices, net_position, leaving, entering, whole_surplus}
use Rattle.market.specs.declared.Side.{Side}
use Rattle.market.specs.declared.Side.TheVariants.{Sell, Buy}
use Rattle.market.specs.declared.Rule.{Rule}
use Rattle.market.specs.declared.Rule.TheVariants.{Price, Capacity, Quantity, Ratio, Whole, Balance, Step, Line, Block}

-- ==== the sentences

-- a sell is in the money below the price and out of it above; a buy is in the money above the price and out of it below
abbrev pub InTheMoney : Side → ℤ → ℤ → Type 0
InTheMoney Sell limit price = limit ≺ price
InTheMoney Buy limit price = price ≺ limit

abbrev pub OutOfTheMoney : Side → ℤ → ℤ → Type 0
OutOfTheMoney Sell limit price = price ≺ limit
OutOfTheMoney Buy limit price = limit ≺ price

-- what is received is not below what is asked; what is paid is not above what is offered
abbrev pub Pays : Side → ℤ → ℤ → Type 0
Pays Sell limits income = limits ≼ income
Pays Buy limits income = income ≼ limits

module _ (d : Day) (p : Prices) where
  -- 11. Every price lies from floor to ceiling, both allowed.
  abbrev pub PriceAt : ℕ → ℕ → Type 0
  PriceAt zone period = (d.floor period ≼ p zone period) × (p zone period ≼ d.ceiling period)

module _ (d : Day) (c : Choice) where
  -- 12. Flow is at most forward capacity and at least minus back capacity.
  abbrev pub CapacityAt : ℕ → ℕ → Type 0
  CapacityAt l period = (c.flow l period ≼ d.forward l period) × (neg_ℤ (d.back l period) ≼ c.flow l period)

  -- 13. A step's accepted volume is at most its quantity.
  abbrev pub QuantityAt : ℕ → Type 0
  QuantityAt i = c.volume i ≤ (d.step i).quantity

  -- 20. A block's ratio, where it is above 0, is not below its least ratio.
  abbrev pub RatioAt : ℕ → Type 0
  RatioAt k = 0 < c.ratio k → (d.block k).least ≤ c.ratio k

  -- 21. An accepted volume, quantity times ratio over 1,000, is whole.
  abbrev pub WholeAt : ℕ → ℕ → Type 0
  WholeAt k period = d.quantity k period * c.ratio k % most_ratio ≡ 0

  -- 14. Net position equals flows leaving less flows entering.
  abbrev pub BalanceAt : ℕ → ℕ → Type 0
  BalanceAt zone period = net_position d c zone period ≡ leaving d c zone period -ℤ entering d c zone period

  -- these five at all their places: they speak of no price
  abbrev pub KeepsCapacities : Type 0
  KeepsCapacities = (l period : ℕ) → l < d.lines → period < d.periods → CapacityAt l period

  abbrev pub KeepsQuantities : Type 0
  KeepsQuantities = (i : ℕ) → i < d.steps → QuantityAt i

  abbrev pub KeepsLeastRatios : Type 0
  KeepsLeastRatios = (k : ℕ) → k < d.blocks → RatioAt k

  abbrev pub WholeVolumes : Type 0
  WholeVolumes = (k period : ℕ) → k < d.blocks → period < d.periods → WholeAt k period

  abbrev pub Balanced : Type 0
  Balanced = (zone period : ℕ) → zone < d.zones → period < d.periods → BalanceAt zone period

module _ (d : Day) (p : Prices) (c : Choice) where
  -- 15. A sell step below its zone's price is accepted in full, above it not at all; a buy step above the price in full, below it not at
  -- all. At the price any volume is allowed.
  abbrev pub StepAt : ℕ → Type 0
  StepAt i =
      let s = d.step i in
      let price = p s.zone s.period in
      (InTheMoney s.side s.limit price → c.volume i ≡ s.quantity) × (OutOfTheMoney s.side s.limit price → c.volume i ≡ 0)

  -- 16. "to" dearer than "from" means flow equals forward capacity; "to" cheaper means flow equals minus back capacity; equal prices ask
  -- nothing.
  abbrev pub LineAt : ℕ → ℕ → Type 0
  LineAt l period =
      let from = p (d.line l).from period in
      let to = p (d.line l).to period in
      (from ≺ to → c.flow l period ≡ d.forward l period) × (to ≺ from → c.flow l period ≡ neg_ℤ (d.back l period))

  -- 17. An accepted sell block, whatever its ratio above 0, has the sum of quantity times price not below its limit times its whole
  -- quantity; for a buy block not above. A rejected block is never refused.
  abbrev pub BlockAt : ℕ → Type 0
  BlockAt k =
      let b = d.block k in
      0 < c.ratio k →
      Pays b.side (b.limit *ℤ sum d.periods (λ h. pos (d.quantity k h))) (sum d.periods (λ h. pos (d.quantity k h) *ℤ p b.zone h))

  -- every rule, at all its places
  pub record Lawful : Type 0 where
    pub price_rule : (zone period : ℕ) → zone < d.zones → period < d.periods → PriceAt d p zone period
    pub capacity_rule : KeepsCapacities d c
    pub quantity_rule : KeepsQuantities d c
    pub ratio_rule : KeepsLeastRatios d c
    pub whole_rule : WholeVolumes d c
    pub balance_rule : Balanced d c
    pub step_rule : (i : ℕ) → i < d.steps → StepAt i
    pub line_rule : (l period : ℕ) → l < d.lines → period < d.periods → LineAt l period
    pub block_rule : (k : ℕ) → k < d.blocks → BlockAt k

-- ==== the tests

abbrev pub equal : ℤ → ℤ → Bool
equal a b = le_z a b && le_z b a

-- in full where what it gets is above what it asks, not at all where it is below
abbrev pub full_or_none : ℤ → ℤ → ℕ → ℕ → Bool
full_or_none ask get quantity volume = (le_z get ask || eqb volume quantity) && (le_z ask get || eqb volume 0)

abbrev pub step_ok : Side → ℤ → ℕ → ℤ → ℕ → Bool
step_ok Sell limit quantity price volume = full_or_none limit price quantity volume
step_ok Buy limit quantity price volume = full_or_none price limit quantity volume

-- `least` is minus the back capacity, `from` and `to` are the prices there
abbrev pub line_ok : ℤ → ℤ → ℤ → ℤ → ℤ → Bool
line_ok forward least from to flow = (le_z to from || equal flow forward) && (le_z from to || equal flow least)

abbrev pub ratio_ok : ℕ → ℕ → Bool
ratio_ok least ratio = eqb ratio 0 || leb least ratio

abbrev pub whole_ok : ℕ → ℕ → Bool
whole_ok ratio quantity = eqb (quantity * ratio % most_ratio) 0

-- of the whole block's surplus
abbrev pub block_ok : ℕ → ℤ → Bool
block_ok ratio surplus = eqb ratio 0 || le_z (pos 0) surplus

module _ (d : Day) (p : Prices) (c : Choice) where
  -- at a rule's place: zone and period, line and period, or row and 0
  unfoldable pub test : Rule → ℕ → ℕ → Bool
  test Price zone period = le_z (d.floor period) (p zone period) && le_z (p zone period) (d.ceiling period)
  test Capacity l period = le_z (neg_ℤ (d.back l period)) (c.flow l period) && le_z (c.flow l period) (d.forward l period)
  test Quantity i _ = leb (c.volume i) (d.step i).quantity
  test Ratio k _ = ratio_ok (d.block k).least (c.ratio k)
  test Whole k period = whole_ok (c.ratio k) (d.quantity k period)
  test Balance zone period = equal (net_position d c zone period) (leaving d c zone period -ℤ entering d c zone period)
  test Step i _ =
      step_ok (d.step i).side (d.step i).limit (d.step i).quantity (p (d.step i).zone (d.step i).period) (c.volume i)
  test Line l period =
      line_ok (d.forward l period) (neg_ℤ (d.back l period)) (p (d.line l).from period) (p (d.line l).to period) (c.flow l period)
  test Block k _ = block_ok (c.ratio k) (whole_surplus d p k)

  -- the sentence that is tested there
  abbrev pub Obeys : Rule → ℕ → ℕ → Type 0
  Obeys Price zone period = PriceAt d p zone period
  Obeys Capacity l period = CapacityAt d c l period
  Obeys Quantity i _ = QuantityAt d c i
  Obeys Ratio k _ = RatioAt d c k
  Obeys Whole k period = WholeAt d c k period
  Obeys Balance zone period = BalanceAt d c zone period
  Obeys Step i _ = StepAt d p c i
  Obeys Line l period = LineAt d p c l period
  Obeys Block k _ = BlockAt d p c k

-- ==== their numbers, places and order

abbrev pub number : Rule → ℕ
number Price = 11
number Capacity = 12
number Quantity = 13
number Ratio = 20
number Whole = 21
number Balance = 14
number Step = 15
number Line = 16
number Block = 17

-- a rule's places: so many rows, each with so many columns
abbrev pub rule_rows : ℕ → ℕ → ℕ → ℕ → Rule → ℕ
rule_rows zones lines steps blocks Price = zones
rule_rows zones lines steps blocks Capacity = lines
rule_rows zones lines steps blocks Quantity = steps
rule_rows zones lines steps blocks Ratio = blocks
rule_rows zones lines steps blocks Whole = blocks
rule_rows zones lines steps blocks Balance = zones
rule_rows zones lines steps blocks Step = steps
rule_rows zones lines steps blocks Line = lines
rule_rows zones lines steps blocks Block = blocks

abbrev pub rule_columns : ℕ → Rule → ℕ
rule_columns periods Price = periods
rule_columns periods Capacity = periods
rule_columns periods Quantity = 1
rule_columns periods Ratio = 1
rule_columns periods Whole = periods
rule_columns periods Balance = periods
rule_columns periods Step = 1
rule_columns periods Line = periods
rule_columns periods Block = 1

abbrev pub rows : Day → Rule → ℕ
rows d = rule_rows d.zones d.lines d.steps d.blocks

abbrev pub columns : Day → Rule → ℕ
columns d = rule_columns d.periods

-- the order in which the rules are looked for, by their numbers: 20 and 21 come after 13
abbrev pub order : List ℕ
order = 11 ∷ 12 ∷ 13 ∷ 20 ∷ 21 ∷ 14 ∷ 15 ∷ 16 ∷ 17 ∷ []

module _ (d : Day) (p : Prices) (c : Choice) where
  abbrev pub rule_stage : Rule → Stage
  rule_stage rule = record { number = number rule; rows = rows d rule; cols = columns d rule; test = test d p c rule; named = place }

  -- the rules in this order
  abbrev pub rule_stages : List Stage
  rule_stages =
      rule_stage Price
      ∷ rule_stage Capacity
      ∷ rule_stage Quantity
      ∷ rule_stage Ratio
      ∷ rule_stage Whole
      ∷ rule_stage Balance
      ∷ rule_stage Step
      ∷ rule_stage Line
      ∷ rule_stage Block
      ∷ []
