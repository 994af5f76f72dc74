-- The number of an outcome whose refusals are of any type that says a number and a place. Assumes nothing.
use Rattle.std.specs.Prelude.{ℕ, ◌≡◌, Result, Ok, Err}
use Rattle.std.proofs.Common.{◌∙◌, ap}
use Rattle.stages.specs.declared.Place.{Place}
use Rattle.market.specs.declared.Totals.{Totals}
use Rattle.verdict.specs.Verdict.{Outcome, number_of}

-- 0 of an acceptance, and of a refusal the number that it says
abbrev pub Numbered : {E : Type 0} → (E → ℕ × Place → Type 0) → Result Totals E → ℕ → Type 0
Numbered says (Ok t) n = n ≡ 0
Numbered says (Err e) n = (said : ℕ × Place) × (says e said × (n ≡ said.0))

-- of the checker's own refusals it is the rule paper's
pub numbered : (outcome : Outcome) {n : ℕ} → Numbered (λ refusal said. said ≡ refusal) outcome n → n ≡ number_of outcome
numbered (Ok t) e = e
numbered (Err r) (said, (same, e)) = e ∙ ap (λ (p : ℕ × Place). p.0) same
