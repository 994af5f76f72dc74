-- That the bound of demand 3 does not hold without the shortfall. Assumes nothing.
use Rattle.std.specs.Prelude.{ℕ, ◌≡◌, List, ℤ, pos}
use Rattle.std.proofs.Common.{subst}
use Rattle.whole.specs.Whole.{◌≼◌}
use Rattle.market.specs.Market.{Choice, order_value}
use Rattle.market.specs.Other.{Allowed}
use Rattle.market.specs.declared.Totals.{Totals}
use Rattle.verdict.specs.Verdict.{day_of, verdict}
use Rattle.cases.specs.Others.{shown, left_out}
use Rattle.std.specs.Prelude.{Ok}

-- so the bound does not hold without the shortfall
pub shortfall_needed : ¬ ((day clearing : List ℕ) (room : ℕ) (t : Totals) → verdict day clearing room ≡ Ok t →
    (other : Choice) → Allowed (day_of day) other → order_value (day_of day) other ≼ t.value)
shortfall_needed bound =
    let other = shown.1.1.1.0 in
    (subst (λ (value : ℤ). value ≼ pos 4700000) other.1 (bound _ _ 60 _ left_out _ other.0)).le
