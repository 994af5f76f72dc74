-- The rules' stages over two files, and the laws by which the rules follow each other. Assumes nothing.
use Rattle.std.specs.Prelude.{ℕ, ◌<◌, ◌≡◌, Bool, List, [], ◌∷◌, ℤ}
use Rattle.cells.specs.Cells.{Tabled}
use Rattle.std.proofs.Common.{sym, ap, ◌∙◌}
use Rattle.stages.specs.Stage.{Stage, spot, clean, fault_at, first_fault}
use Rattle.market.specs.Rules as market
use Rattle.market.specs.declared.Rule.{Rule}
use Rattle.day.specs.declared.Counts.{Counts}
use Rattle.book.specs.Book.{day_of, prices_of, choice_of}
use Rattle.totals.specs.Sums.{net_position, net_flow}
use Rattle.std.specs.Prelude.{Option, Some, Err}

abbrev pub rows_of : Counts → Rule → ℕ
rows_of c = market.rule_rows c.zones c.lines c.steps c.blocks

abbrev pub columns_of : Counts → Rule → ℕ
columns_of c = market.rule_columns c.periods

module _ (c : Counts) (day clearing : List ℕ) where
  abbrev pub test : Rule → ℕ → ℕ → Bool
  test = market.test (day_of c day) (prices_of c clearing) (choice_of c clearing)

  abbrev pub stage : Rule → Stage
  stage = market.rule_stage (day_of c day) (prices_of c clearing) (choice_of c clearing)

  abbrev pub stages : List Stage
  stages = market.rule_stages (day_of c day) (prices_of c clearing) (choice_of c clearing)

-- the tables of the net positions and of the flows
pub record Gathered (c : Counts) (day clearing : List ℕ) (nets flows : List ℤ) : Type 0 where
  pub nets_are : Tabled c.zones c.periods (net_position c day clearing) nets
  pub flows_are : Tabled c.zones c.periods (net_flow c day clearing) flows

-- ---- the laws by which a stage's fault is found and handed on

pub below : {i m n : ℕ} → m ≡ n → i < m → i < n
below e l = rw (← e) l

-- what is found of a stage, a place or nothing, is its fault
pub found : (s : Stage) {p q : Option (ℕ × ℕ)} → p ≡ spot s → p ≡ q → fault_at s q clean ≡ first_fault (s ∷ [])
found s e f = ap (λ (x : Option (ℕ × ℕ)). fault_at s x clean) (sym f ∙ e)

-- a place that is found is its fault, with the stage's number
pub broken_at : (s : Stage) {z i k : ℕ} → Some (z, i) ≡ spot s → k ≡ s.number → Err (k, s.named z i) ≡ first_fault (s ∷ [])
broken_at s e n = rw (← e, n)
