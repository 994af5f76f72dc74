-- Numbers in a list of bytes, lowest byte first. A place past the end reads 0. Assumes nothing.
use Rattle.std.specs.Prelude.{ℕ, suc, ◌+◌, ◌*◌, ◌/◌, ◌%◌, ◌-◌, cond, List, [], ◌∷◌, ◌++◌, ltb, ℤ, pos, negsuc, ◌-ℤ◌, get_or, length, take, drop}

-- ---- read

abbrev pub u8_at : List ℕ → ℕ → ℕ
u8_at s at = get_or s at 0

abbrev pub u16_at : List ℕ → ℕ → ℕ
u16_at s at = get_or s at 0 + get_or s (at + 1) 0 * 256

abbrev pub u32_at : List ℕ → ℕ → ℕ
u32_at s at = get_or s at 0 + get_or s (at + 1) 0 * 256 + get_or s (at + 2) 0 * 65536 + get_or s (at + 3) 0 * 16777216

-- two's complement at 32 bits: the upper half of the numbers below 2 ^ 32 stands for what is 2 ^ 32 less
abbrev pub signed32 : ℕ → ℤ
signed32 u = cond (ltb u 2147483648) (pos u) (pos u -ℤ pos 4294967296)

abbrev pub i32_at : List ℕ → ℕ → ℤ
i32_at s at = signed32 (u32_at s at)

-- the same of eight bytes, which are only written
abbrev pub u64_at : List ℕ → ℕ → ℕ
u64_at s at = u32_at s at + u32_at s (at + 4) * 4294967296

abbrev pub signed64 : ℕ → ℤ
signed64 u = cond (ltb u 9223372036854775808) (pos u) (pos u -ℤ pos 18446744073709551616)

abbrev pub i64_at : List ℕ → ℕ → ℤ
i64_at s at = signed64 (u64_at s at)

-- ---- written

-- two's complement: a number below 0 is written as what is 2 ^ 32, or 2 ^ 64, more
abbrev pub bits32 : ℤ → ℕ
bits32 (pos n) = n
bits32 (negsuc n) = 4294967296 - suc n

abbrev pub bits64 : ℤ → ℕ
bits64 (pos n) = n
bits64 (negsuc n) = 18446744073709551616 - suc n

-- the bytes of a number, the lowest first
abbrev pub bytes16 : ℕ → List ℕ
bytes16 n = n % 256 ∷ n / 256 % 256 ∷ []

abbrev pub bytes32 : ℕ → List ℕ
bytes32 n = n % 256 ∷ n / 256 % 256 ∷ n / 65536 % 256 ∷ n / 16777216 % 256 ∷ []

abbrev pub bytes64 : ℕ → List ℕ
bytes64 n = bytes32 n ++ bytes32 (n / 4294967296)

-- a list with some bytes put in at a place, and the rest as it was
abbrev pub put : List ℕ → ℕ → List ℕ → List ℕ
put s at bytes = take at s ++ bytes ++ drop (at + length bytes) s
