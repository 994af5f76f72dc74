-- What is printed of an outcome: the verdict's line, the six totals, and the line of a net position. Assumes nothing.
use Rattle.std.specs.Prelude.{ℕ, ℤ, List, [], ◌∷◌, ◌++◌, codes}
use Rattle.std.specs.Fmt.{decimal, signed_decimal}
use Rattle.stages.specs.declared.Place.{Place}
use Rattle.stages.specs.Text.{place_text}
use Rattle.market.specs.declared.Totals.{Totals}

-- a name, a space, a number and the line's end
abbrev pub total_line : List ℕ → ℤ → List ℕ
total_line name v = name ++ (32 ∷ (signed_decimal v ++ 10 ∷ []))

abbrev pub verdict_line : ℕ → Place → List ℕ
verdict_line number place = codes "verdict " ++ (decimal number ++ 32 ∷ (place_text place ++ 10 ∷ []))

abbrev pub totals_text : Totals → List ℕ
totals_text t =
    total_line (codes "order value") t.value
    ++ (total_line (codes "buyers") t.buyers
    ++ (total_line (codes "sellers") t.sellers
    ++ (total_line (codes "rent") t.rent
    ++ (total_line (codes "traded") t.traded ++ total_line (codes "shortfall") t.shortfall))))

-- a zone's code, a period, and the net position there
abbrev pub net_line : ℕ → ℕ → ℤ → List ℕ
net_line code period net = codes "net " ++ (decimal code ++ 32 ∷ (decimal period ++ 32 ∷ (signed_decimal net ++ 10 ∷ [])))
