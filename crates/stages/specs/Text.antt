-- A place and a refusal as they are printed: their numbers in decimal, with a space between two. Assumes nothing.
use Rattle.std.specs.Prelude.{ℕ, List, ◌∷◌, ◌++◌}
use Rattle.std.specs.Fmt.{decimal}
use Rattle.stages.specs.declared.Place.{Place}
use Rattle.stages.specs.declared.Refusal.{Refusal}

abbrev pub place_text : Place → List ℕ
place_text p = decimal p.first ++ 32 ∷ (decimal p.second ++ 32 ∷ decimal p.third)

abbrev pub refusal_text : Refusal → List ℕ
refusal_text r = decimal r.0 ++ 32 ∷ place_text r.1
