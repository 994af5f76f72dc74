-- What `Option::or_else` gives is the first of two answers that found something. Assumes nothing.
use Rattle.std.specs.Prelude.{ℕ, ◌≡◌, Option, Some, None, MatchOption}
use Rattle.stages.specs.First.{or_else}

pub or_else_is : {N : Type 0} {S : ℕ → Type 0} (a b : Option ℕ) {r : Option ℕ} → MatchOption a N S → (N → r ≡ b) → ((k : ℕ) → S k → r ≡ Some k) →
    r ≡ or_else a b
or_else_is None b m f g = f m
or_else_is (Some k) b m f g = g k m
