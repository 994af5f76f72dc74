-- What `gain` answers, as it is passed on by those who call it: numbers that are passed stand as their bits, and say the same. Assumes nothing.
use Prim.Native.Nat.{ℕ, ◌<◌, ◌^◌}
use native.Mathlib.Omega.{arith}
use mathlib.Core.Path.{◌≡◌, ◌∙◌}
use lib.IntN.{ℤ, pos}
use lib.Signed.{mag}
use mir.Syntax.{w64}
use mir.Val.{SFits, hbits, to_z, of_z}
use mir.ValLaws.{to_z-of_z}
use Rattle.whole.proofs.Size.{same}
use Rattle.market.specs.Measures.{gain}

pub gained : (get ask : ℤ) (volume : ℕ) → SFits w64 get → SFits w64 ask → {r : ℤ} → mag r < 2 ^ hbits w64 →
    r ≡ gain (to_z w64 (of_z w64 get)) (to_z w64 (of_z w64 ask)) volume → to_z w64 (of_z w64 r) ≡ gain get ask volume
gained get ask volume g a {r} ok e = same r ok ∙ e ∙ rw (to_z-of_z w64 get g, to_z-of_z w64 ask a)

pub zero_fits : SFits w64 (pos 0)
zero_fits = record { sfits = omega arith }
