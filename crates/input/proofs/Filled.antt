-- A buffer that is filled part after part. Assumes nothing.
use Rattle.std.proofs.Common.{◌≡◌, ℕ, ◌+◌, ◌≤◌, List, ◌++◌, length, take, arith, sym, ap, ◌∙◌, length-take-le}
use Rattle.std.proofs.lemmas.List.{take-take}
use Rattle.std.proofs.Math.Seq.{take-append-add}

-- what a part gave stands behind what the buffer held
pub filled_then : (done more : ℕ) (old rest new : List ℕ) → take (done + length rest) new ≡ take done old ++ rest → done ≤ length old → more ≤ length rest → take done old ++ take more rest ≡ take (done + more) new
filled_then done more old rest new e within fits =
    let front = take done old in
    let long : length front ≡ done = length-take-le done old within in
    let cut = take-take (done + more) (done + length rest) new (omega arith) in
    sym (take-append-add front rest more) ∙ ap (λ k. take (k + more) (front ++ rest)) long ∙ ap (take (done + more)) (sym e) ∙ cut
