-- What is written is read back, and the bytes around it stay as they were. Assumes nothing.
use Rattle.std.specs.Prelude.{ℕ, suc, ◌+◌, ◌/◌, ◌%◌, ◌-◌, ◌^◌, ◌≤◌, ◌<◌, ◌≡◌, refl, ◌⊎◌, cond, List, ◌++◌, ltb, ℤ, pos, negsuc, ◌-ℤ◌, get_or, length, take, drop}
use Rattle.std.proofs.Common.{add_assoc, add-zero, mod-eq_of_lt, arith, ◌∙◌, inl, inr, append_assoc, length-append, length-drop, length-take-le, take_at, drop-drop, get_or-append-add, get_or-take, get_or-drop, lt-ltb, le-ltb}
use Rattle.std.proofs.Math.ListN.{get_or-append}
use Rattle.std.proofs.Math.Seq.{drop-append-add}
use Rattle.std.specs.Int.{Width, w32, w64}
use mir.Val.{SFits, hbits, bits, of_z}
use mir.ValLaws.{pow-bits, of_z_fits}
use Rattle.whole.specs.Ring.{linear}
use Rattle.wire.specs.Bytes.{u16_at, u32_at, u64_at, i32_at, i64_at, bits32, bits64, bytes16, bytes32, bytes64, put}

-- ---- the bytes of a number

u16_bytes : (n : ℕ) → u16_at (bytes16 n) 0 ≡ n % 65536
u16_bytes n = omega arith

u32_bytes : (n : ℕ) → u32_at (bytes32 n) 0 ≡ n % 4294967296
u32_bytes n = rw (u16_bytes n) (omega arith)

each_low_byte : (n : ℕ)
    → (n % 4294967296 % 256 ≡ n % 256)
    × (n % 4294967296 / 256 % 256 ≡ n / 256 % 256)
    × (n % 4294967296 / 65536 % 256 ≡ n / 65536 % 256)
    × (n % 4294967296 / 16777216 % 256 ≡ n / 16777216 % 256)
each_low_byte n = omega arith

pub bytes32_mod : (n : ℕ) → bytes32 (n % 4294967296) ≡ bytes32 n
bytes32_mod n = let e = each_low_byte n in cc

-- ---- past the first part of a list, whose length is known by an equation

module _ (p q : List ℕ) (n k : ℕ) (e : length p ≡ n) where
  get_d_past : get_or (p ++ q) (n + k) 0 ≡ get_or q k 0
  get_d_past = rw (← e) (get_or-append-add p q k 0)

  drop_past : drop (n + k) (p ++ q) ≡ drop k q
  drop_past = rw (← e) (drop-append-add p q k)

-- ---- bytes put into a list

module _ (s : List ℕ) (at : ℕ) (bytes : List ℕ) (fits : at + length bytes ≤ length s) where
  length_before : length (take at s) ≡ at
  length_before = length-take-le at s (omega arith)

  length_through : length (take at s ++ bytes) ≡ at + length bytes
  length_through = rw (length-append, length_before)

  pub put_length : length (put s at bytes) ≡ length s
  put_length = rw (length-append, length-drop, length_through) (omega arith)

  pub put_elsewhere : (i : ℕ) → (i < at) ⊎ (at + length bytes ≤ i) → get_or (put s at bytes) i 0 ≡ get_or s i 0
  put_elsewhere i (inl h) =
      let l : i < length (take at s) = omega (arith, length_before) in
      rw (append_assoc, get_or-append, get_or-take)
  put_elsewhere i (inr h) =
      let k = i - (at + length bytes) in
      let e : i ≡ at + length bytes + k = omega arith in
      rw (e, get_d_past (take at s ++ bytes) (drop (at + length bytes) s) (at + length bytes) k length_through, get_or-drop)

  pub put_there : (k : ℕ) → k < length bytes → get_or (put s at bytes) (at + k) 0 ≡ get_or bytes k 0
  put_there k h =
      rw (append_assoc, get_d_past (take at s) (bytes ++ drop (at + length bytes) s) at k length_before, get_or-append)

  u32_there : (k : ℕ) → k + 4 ≤ length bytes → u32_at (put s at bytes) (at + k) ≡ u32_at bytes k
  u32_there k h =
      rw (
        add_assoc at k 1,
        add_assoc at k 2,
        add_assoc at k 3,
        put_there k (omega arith),
        put_there (k + 1) (omega arith),
        put_there (k + 2) (omega arith),
        put_there (k + 3) (omega arith),
      )

pub put_put : (s : List ℕ) (at : ℕ) (a b : List ℕ) → at + length (a ++ b) ≤ length s
    → put (put s at a) (at + length a) b ≡ put s at (a ++ b)
put_put s at a b fits =
    let l : length (take at s ++ a) ≡ at + length a = length_through s at a (omega (arith, length-append a b)) in
    rw (
      take_at (take at s ++ a) (drop (at + length a) s) (at + length a) l,
      drop_past (take at s ++ a) (drop (at + length a) s) (at + length a) (length b) l,
      drop-drop,
      append_assoc (take at s) a b,
      length-append,
      ← add_assoc,
    )

-- ---- two's complement

pub bits32_is : (v : ℤ) → bits32 v ≡ of_z w32 v
bits32_is (pos n) = refl
bits32_is (negsuc n) = refl

pub bits64_is : (v : ℤ) → bits64 v ≡ of_z w64 v
bits64_is (pos n) = refl
bits64_is (negsuc n) = refl

signed_bits : (w : Width) (v : ℤ) → SFits w v
    → cond (ltb (of_z w v) (2 ^ hbits w)) (pos (of_z w v)) (pos (of_z w v) -ℤ pos (2 ^ bits w)) ≡ v
signed_bits w (pos n) f = rw (lt-ltb n (2 ^ hbits w) f.sfits)
signed_bits w (negsuc n) f =
    rw (le-ltb (2 ^ bits w - suc n) (2 ^ hbits w) (omega (arith, pow-bits w))) (simp linear (omega (arith, pow-bits w)))

-- ---- what is written is read back

module _ (s : List ℕ) (at : ℕ) where
  pub u16_put : (n : ℕ) → at + 2 ≤ length s → n < 65536 → u16_at (put s at (bytes16 n)) at ≡ n
  u16_put n h f =
      rw (simp add-zero at (put_there s at (bytes16 n) h 0 (omega arith)), put_there s at (bytes16 n) h 1 (omega arith))
      (omega arith)

  pub u32_put : (n : ℕ) → at + 4 ≤ length s → n < 4294967296 → u32_at (put s at (bytes32 n)) at ≡ n
  u32_put n h f = simp add-zero at (u32_there s at (bytes32 n) h 0 (omega arith)) ∙ u32_bytes n ∙ mod-eq_of_lt f

  pub u64_put : (n : ℕ) → at + 8 ≤ length s → n < 18446744073709551616 → u64_at (put s at (bytes64 n)) at ≡ n
  u64_put n h f =
      rw (
        simp add-zero at (u32_there s at (bytes64 n) h 0 (omega arith)),
        u32_there s at (bytes64 n) h 4 (omega arith),
        u32_bytes n,
        u32_bytes (n / 4294967296),
      )
      (omega arith)

  pub i32_put : (v : ℤ) → at + 4 ≤ length s → SFits w32 v → i32_at (put s at (bytes32 (bits32 v))) at ≡ v
  i32_put v h f = rw (bits32_is v, u32_put (of_z w32 v) h (of_z_fits w32 v f).fits) (signed_bits w32 v f)

  pub i64_put : (v : ℤ) → at + 8 ≤ length s → SFits w64 v → i64_at (put s at (bytes64 (bits64 v))) at ≡ v
  i64_put v h f = rw (bits64_is v, u64_put (of_z w64 v) h (of_z_fits w64 v f).fits) (signed_bits w64 v f)
