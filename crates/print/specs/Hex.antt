-- Bytes in hexadecimal. Assumes nothing.
use Rattle.std.specs.Prelude.{ℕ, ◌/◌, ◌%◌, false, List, [], ◌∷◌}
use Rattle.std.specs.List.{flat_map}
use Rattle.std.specs.Fmt.{digit_glyph}

-- a byte as two digits
abbrev pub two_digits : ℕ → List ℕ
two_digits x = digit_glyph false (x / 16) ∷ digit_glyph false (x % 16) ∷ []

-- each byte as two digits
abbrev pub hex : List ℕ → List ℕ
hex xs = flat_map two_digits xs
