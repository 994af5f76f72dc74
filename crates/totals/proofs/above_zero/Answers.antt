-- `totals::above_zero` meets its contract. Assumes nothing.
use Rattle.std.specs.Prelude.{◌≡◌, refl, ℤ, pos, negsuc, zero, suc}
use Rattle.std.specs.Int.{int_max}
use Rattle.std.proofs.Common.{◌∙◌, w64, arith, le-leb}
use Rattle.whole.specs.Whole.{above_zero}
use Rattle.whole.proofs.Size.{same}
use Rattle.std.proofs.lemmas.Int.{to_z-of_z}
use Rattle.totals.proofs.above_zero.Goals as goal

max_zero : (x : ℤ) → int_max x (pos 0) ≡ above_zero x
unfolding above_zero
max_zero (pos zero) = refl
max_zero (pos (suc n)) = rw (le-leb 1 (suc n) (omega arith))
max_zero (negsuc n) = refl

pub returns : goal.returns
returns c =
    same c.max.result c.max.type_inv ∙ c.max.ensures.value ∙ rw (to_z-of_z w64 c.args.surplus c.ranges.surplus) (max_zero c.args.surplus)
