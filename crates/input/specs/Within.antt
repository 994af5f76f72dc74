-- What a reading says of the buffer, and of the bytes that the file had left. Assumes nothing.
use Rattle.std.specs.Prelude.{ℕ, ◌≤◌, ◌<◌, ◌≡◌, Option, List, length, take, Result, Ok, IfOk}
use Rattle.std.specs.Io.KnownBytes.{Consumes, IsAtEnd}
use Rattle.std.proofs.Common.{subst}

abbrev pub Within : {E : Type 0} → Result ℕ E → ℕ → Type 0
Within r most = IfOk r (λ n. n ≤ most)

pub held : {E : Type 0} {r : Result ℕ E} {n most : ℕ} → Within r most → r ≡ Ok n → n ≤ most
held {E = E} {most = most} w e = subst (λ (r : Result ℕ E). Within r most) e w

-- n bytes stand at the front of xs
abbrev pub IsPrefixLen : ℕ → List ℕ → Type 0
IsPrefixLen n xs = (n ≤ length xs) × (n ≡ length (take n xs))

-- a whole reading, where the bytes that the file has left are known: those held are the next ones, and it leaves room only at the end
abbrev pub Takes : {E : Type 0} → Result ℕ E → Option (List ℕ) → Option (List ℕ) → List ℕ → Type 0
Takes r old new buf = IfOk r (λ n. Consumes old new (take n buf) × (n < length buf → IsAtEnd new))
