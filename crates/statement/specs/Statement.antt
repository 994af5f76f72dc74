-- The statement: six totals (count 6, i64 each: order value, buyer surplus, seller surplus, rent, traded volume, shortfall), then the net
-- positions (count Z times H, i32, ordered like prices). Assumes nothing.
use Rattle.std.specs.Prelude.{ℕ, zero, suc, ◌+◌, ◌*◌, List, [], ◌++◌, ℤ}
use Rattle.wire.specs.Bytes.{bits32, bits64, bytes16, bytes32, bytes64}
use Rattle.market.specs.declared.Totals.{Totals}

-- both counts, and the totals between them
unfoldable pub head : Totals → ℕ → List ℕ
head t n =
    bytes16 6
    ++ bytes64 (bits64 t.value)
    ++ bytes64 (bits64 t.buyers)
    ++ bytes64 (bits64 t.sellers)
    ++ bytes64 (bits64 t.rent)
    ++ bytes64 (bits64 t.traded)
    ++ bytes64 (bits64 t.shortfall)
    ++ bytes16 n

-- the first n of the net positions
unfoldable pub nets : (ℕ → ℤ) → ℕ → List ℕ
nets net zero = []
nets net (suc k) = nets net k ++ bytes32 (bits32 (net k))

abbrev pub statement : Totals → (ℕ → ℤ) → ℕ → List ℕ
statement t net n = head t n ++ nets net n

-- its bytes, by the number of net positions
abbrev pub statement_length : ℕ → ℕ
statement_length n = 52 + 4 * n
