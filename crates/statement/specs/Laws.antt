-- A statement's length, what stores one after the other leave, and what is read back from its bytes. Assumes nothing.
use Rattle.std.specs.Prelude.{ℕ, zero, suc, ◌+◌, ◌*◌, ◌≤◌, ◌<◌, ◌≡◌, List, [], ◌∷◌, ◌++◌, ℤ, get_or, length, take, drop}
use Rattle.std.proofs.Common.{zero-add, add-zero, eq-or-lt_of_le, le_of_suc-le-suc, add-one, arith, sym, ap, ◌∙◌, inr, ⊎_elim, append-nil, append_assoc, length-append, take-append-drop, take_at, drop_at, SFits}
use Rattle.std.proofs.Math.Path.{refl}
use Rattle.std.proofs.Math.Seq.{drop-length}
use Rattle.std.specs.Int.{w32, w64}
use Rattle.wire.specs.Bytes.{u16_at, i32_at, i64_at, bits32, bits64, bytes16, bytes32, bytes64, put}
use Rattle.wire.specs.RoundTrip.{put_length, put_elsewhere, put_put, u16_put, i32_put, i64_put}
use Rattle.market.specs.declared.Totals.{Totals}
use Rattle.statement.specs.Statement.{head, nets, statement, statement_length}

-- ---- how long

pub head_length : (t : Totals) (n : ℕ) → length (head t n) ≡ 52
unfolding head
head_length t n = refl

pub nets_length : (net : ℕ → ℤ) (n : ℕ) → length (nets net n) ≡ 4 * n
unfolding nets
nets_length net zero = refl
nets_length net (suc k) = rw (length-append, nets_length net k) (omega arith)

pub statement_length_lem : (t : Totals) (net : ℕ → ℤ) (n : ℕ) → length (statement t net n) ≡ statement_length n
statement_length_lem t net n = rw (length-append, head_length, nets_length)

-- ---- the net positions, one by one

pub nets_next : (net : ℕ → ℤ) (n : ℕ) → nets net (n + 1) ≡ nets net n ++ bytes32 (bits32 (net n))
unfolding nets
nets_next net n = rw add-one

pub nets_cong : (f g : ℕ → ℤ) (n : ℕ) → ((k : ℕ) → k < n → f k ≡ g k) → nets f n ≡ nets g n
unfolding nets
nets_cong f g zero h = refl
nets_cong f g (suc n) h = rw (nets_cong f g n (λ k l. h k (omega arith)), h n (omega arith))

-- ---- stores one after the other

put_nothing : (s : List ℕ) (at : ℕ) → put s at [] ≡ s
put_nothing s at = rw (append-nil, add-zero, take-append-drop)

-- each right behind the one before
abbrev puts : List ℕ → ℕ → List (List ℕ) → List ℕ
puts s at [] = s
puts s at (b ∷ bs) = puts (put s at b) (at + length b) bs

abbrev joined : List (List ℕ) → List ℕ
joined [] = []
joined (b ∷ bs) = b ++ joined bs

puts_joined : (bs : List (List ℕ)) (s : List ℕ) (at : ℕ) → at + length (joined bs) ≤ length s → puts s at bs ≡ put s at (joined bs)
puts_joined [] s at h = sym (put_nothing s at)
puts_joined (b ∷ bs) s at h =
    let l : at + (length b + length (joined bs)) ≤ length s = rw (← length-append b (joined bs)) h in
    puts_joined bs (put s at b) (at + length b) (rw (put_length s at b (omega arith)) (omega arith)) ∙ put_put s at b (joined bs) h

-- what the eight stores of a head leave
pub head_stored : (t : Totals) (n : ℕ) (room : List ℕ) → 52 ≤ length room →
    put
    (put
    (put
    (put
    (put
    (put
    (put (put room 0 (bytes16 6)) 2 (bytes64 (bits64 t.value)))
    10 (bytes64 (bits64 t.buyers)))
    18 (bytes64 (bits64 t.sellers)))
    26 (bytes64 (bits64 t.rent)))
    34 (bytes64 (bits64 t.traded)))
    42 (bytes64 (bits64 t.shortfall)))
    50 (bytes16 n)
    ≡ put room 0 (head t n)
unfolding head
head_stored t n room h =
    puts_joined
    (
    bytes16 6
    ∷ bytes64 (bits64 t.value)
    ∷ bytes64 (bits64 t.buyers)
    ∷ bytes64 (bits64 t.sellers)
    ∷ bytes64 (bits64 t.rent)
    ∷ bytes64 (bits64 t.traded)
    ∷ bytes64 (bits64 t.shortfall)
    ∷ bytes16 n
    ∷ []
    )
    room 0 h

-- one more, at a place that is known to be right behind
put_behind : (s : List ℕ) (at : ℕ) (a b : List ℕ) (place : ℕ) → place ≡ at + length a → place + length b ≤ length s →
    put (put s at a) place b ≡ put s at (a ++ b)
put_behind s at a b place e h = rw e (put_put s at a b (omega (arith, length-append a b)))

pub nets_none : (room : List ℕ) (net : ℕ → ℤ) → put room 52 (nets net 0) ≡ room
unfolding nets
nets_none room net = put_nothing room 52

pub net_more : (room : List ℕ) (net : ℕ → ℤ) (k : ℕ) → 52 + 4 * (k + 1) ≤ length room →
    put (put room 52 (nets net k)) (52 + 4 * k) (bytes32 (bits32 (net k))) ≡ put room 52 (nets net (k + 1))
net_more room net k h =
    rw nets_next
    (put_behind room 52 (nets net k) (bytes32 (bits32 (net k))) (52 + 4 * k) (omega (arith, nets_length net k)) (omega arith))

pub statement_stored : (t : Totals) (net : ℕ → ℤ) (n : ℕ) (room : List ℕ) → statement_length n ≤ length room →
    put (put room 0 (head t n)) 52 (nets net n) ≡ put room 0 (statement t net n)
statement_stored t net n room h =
    put_behind room 0 (head t n) (nets net n) 52 (omega (arith, head_length t n)) (omega (arith, nets_length net n))

-- the statement, and the room behind it
pub stored_is : (t : Totals) (net : ℕ → ℤ) (n : ℕ) (room : List ℕ) →
    put room 0 (statement t net n) ≡ statement t net n ++ drop (statement_length n) room
stored_is t net n room = rw (statement_length_lem t net n, zero-add)

-- in a room of just its length, the statement alone
pub fills : (t : Totals) (net : ℕ → ℤ) (n : ℕ) (room : List ℕ) → length room ≡ statement_length n → put room 0 (statement t net n) ≡ statement t net n
fills t net n room e = stored_is t net n room ∙ rw (← e, drop-length, append-nil)

pub stays_behind : (t : Totals) (net : ℕ → ℤ) (n : ℕ) (room : List ℕ) → statement_length n ≤ length room →
    (i : ℕ) → statement_length n ≤ i → get_or (put room 0 (statement t net n)) i 0 ≡ get_or room i 0
stays_behind t net n room h i l =
    let e = statement_length_lem t net n in
    put_elsewhere room 0 (statement t net n) (omega (arith, e)) i (inr (omega (arith, e)))

-- ---- what is read back

i64_bytes : (v : ℤ) → SFits w64 v → i64_at (bytes64 (bits64 v)) 0 ≡ v
i64_bytes v f = i64_put (bytes64 (bits64 v)) 0 v (omega arith) f

-- bytes that stand where they would be put
put_same : (a b rest : List ℕ) (at : ℕ) → length a ≡ at → put (a ++ b ++ rest) at b ≡ a ++ b ++ rest
put_same a b rest at e =
    let before : take at (a ++ b ++ rest) ≡ a = rw (append_assoc a b rest) (take_at a (b ++ rest) at e) in
    let behind : drop (at + length b) (a ++ b ++ rest) ≡ rest = drop_at (a ++ b) rest (at + length b) (rw (length-append, e)) in
    rw (before, behind)

i32_here : (a rest : List ℕ) (at : ℕ) → length a ≡ at → (v : ℤ) → SFits w32 v → i32_at (a ++ bytes32 (bits32 v) ++ rest) at ≡ v
i32_here a rest at e v f =
    let b = bytes32 (bits32 v) in
    let room : at + 4 ≤ length (a ++ b ++ rest) = rw (length-append, length-append) (omega arith) in
    ap (λ (s : List ℕ). i32_at s at) (sym (put_same a b rest at e)) ∙ i32_put (a ++ b ++ rest) at v room f

-- a net position, of those that stand behind any bytes and before any
nets_read : (a : List ℕ) (at : ℕ) → length a ≡ at → (net : ℕ → ℤ) (n : ℕ) (rest : List ℕ) (k : ℕ) → k < n → SFits w32 (net k) →
    i32_at (a ++ nets net n ++ rest) (at + 4 * k) ≡ net k
unfolding nets
nets_read a at e net zero rest k l f = absurd (omega arith)
nets_read a at e net (suc n) rest k l f =
    let b = bytes32 (bits32 (net n)) in
    rw (← append_assoc a (nets net n) b)
    (⊎_elim
    (λ q. rw q (i32_here (a ++ nets net n) rest (at + 4 * n) (rw (length-append, nets_length, e)) (net n) (rw q at f)))
    (λ m. rw (append_assoc (a ++ nets net n) b rest) (nets_read a at e net n (b ++ rest) k m f))
    (eq-or-lt_of_le (le_of_suc-le-suc l)))

-- from a statement, whatever bytes follow: both counts, the totals, the net positions. At a place within the head the bytes compute.
module _ (t : Totals) (net : ℕ → ℤ) (n : ℕ) (rest : List ℕ) where
  pub six_read : u16_at (statement t net n ++ rest) 0 ≡ 6
  unfolding head
  six_read = refl

  pub value_read : SFits w64 t.value → i64_at (statement t net n ++ rest) 2 ≡ t.value
  unfolding head
  value_read f = i64_bytes t.value f

  pub buyers_read : SFits w64 t.buyers → i64_at (statement t net n ++ rest) 10 ≡ t.buyers
  unfolding head
  buyers_read f = i64_bytes t.buyers f

  pub sellers_read : SFits w64 t.sellers → i64_at (statement t net n ++ rest) 18 ≡ t.sellers
  unfolding head
  sellers_read f = i64_bytes t.sellers f

  pub rent_read : SFits w64 t.rent → i64_at (statement t net n ++ rest) 26 ≡ t.rent
  unfolding head
  rent_read f = i64_bytes t.rent f

  pub traded_read : SFits w64 t.traded → i64_at (statement t net n ++ rest) 34 ≡ t.traded
  unfolding head
  traded_read f = i64_bytes t.traded f

  pub shortfall_read : SFits w64 t.shortfall → i64_at (statement t net n ++ rest) 42 ≡ t.shortfall
  unfolding head
  shortfall_read f = i64_bytes t.shortfall f

  pub count_read : n < 65536 → u16_at (statement t net n ++ rest) 50 ≡ n
  unfolding head
  count_read f = u16_put (bytes16 n) 0 n (omega arith) f

  pub net_read : (k : ℕ) → k < n → SFits w32 (net k) → i32_at (statement t net n ++ rest) (52 + 4 * k) ≡ net k
  net_read = nets_read (head t n) 52 (head_length t n) net n rest
