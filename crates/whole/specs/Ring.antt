-- The whole numbers as an ordered commutative ring, and two recipes that prove what follows from its laws.
--
-- A LINEAR goal (`≡`, `≼`, `≺` of sums, differences, negations, multiples by naturals; any other term is an unknown) is closed by
--     simp linear (omega arith)
-- A goal with PRODUCTS OF SUMS is closed by
--     simp ring (omega arith)
-- Hypotheses are arrows of the goal. A fact in hand becomes one by `given`: `given h (given k (simp linear (omega arith)))`. Facts in
-- scope whose sides are unknowns, as `lo ≼ y`, need not be given where `omega known` stands for `omega arith`.
--
-- How `linear` works: each whole number is `up z − dn z` for two naturals. `read` marks a term that is still to be taken apart; its laws
-- drive it down to the unknowns, where `read z` is `up z ⊖ dn z`; the laws of `⊖` then gather a side into one difference of naturals,
-- and the order of two such differences is an order of naturals, which `omega` proves. Assumes nothing.
use Rattle.std.specs.Prelude.{◌≡◌, refl, Bool, true, false, not, cond, ◌↔◌, ◌⊎◌, ℕ, zero, suc, ◌+◌, ◌*◌, ◌≤◌, ◌<◌, T, ltb, ℤ, pos, negsuc, neg_ℤ, ◌+ℤ◌, ◌-ℤ◌, ◌*ℤ◌}
use Rattle.std.proofs.Common.{ap, inl, inr, arith, leb→le, le→leb, ltb→lt, nltb→le}
use Rattle.std.proofs.Math.Decide.{dec_le}
use Rattle.std.proofs.Math.IntN.{sub_ℕ, *ℤ_comm}
use Rattle.std.specs.Int.Signed.{lt_z, le_z, le_z_yes, lt_z_yes, lt_z_no, clash_ℤ}
use Rattle.whole.specs.Whole.{◌≼◌, ◌≺◌, up, dn, above_zero}

-- a fact in hand, as a hypothesis of the goal
pub given : {A B : Type 0} → A → (A → B) → B
given a f = f a

-- ---- what the two parts of a sum, a product and an order are

by_test : (c : Bool) (x y : ℤ) (P : ℤ → Type 0) → (T c → P x) → (T (not c) → P y) → P (cond c x y)
by_test true x y P f g = f tt
by_test false x y P f g = g tt

sub_parts : (p n : ℕ) → up (sub_ℕ p n) + n ≡ dn (sub_ℕ p n) + p
sub_parts p n = by_test (ltb p n) _ _ (λ z. up z + n ≡ dn z + p) (λ t. omega (arith, ltb→lt)) (λ t. omega (arith, nltb→le))

neg_parts : (x : ℤ) → up (neg_ℤ x) + up x ≡ dn (neg_ℤ x) + dn x
neg_parts (pos zero) = refl
neg_parts (pos (suc n)) = omega arith
neg_parts (negsuc n) = omega arith

add_parts : (x y : ℤ) → up (x +ℤ y) + dn x + dn y ≡ dn (x +ℤ y) + up x + up y
add_parts (pos a) (pos b) = omega arith
add_parts (pos a) (negsuc b) = omega (arith, sub_parts a (suc b))
add_parts (negsuc a) (pos b) = omega (arith, sub_parts b (suc a))
add_parts (negsuc a) (negsuc b) = omega arith

mul_parts : (x y : ℤ) → up (x *ℤ y) + (up x * dn y + dn x * up y) ≡ dn (x *ℤ y) + (up x * up y + dn x * dn y)
mul_parts (pos a) (pos b) = omega arith
mul_parts (pos a) (negsuc b) = omega (arith, neg_parts (pos (a * suc b)))
mul_parts (negsuc a) (pos b) = omega (arith, neg_parts (pos (suc a * b)))
mul_parts (negsuc a) (negsuc b) = omega arith

-- an order or an equation of integers is one of their parts
pub le_parts : (x y : ℤ) → x ≼ y → up x + dn y ≤ up y + dn x
le_parts (pos a) (pos b) h = omega (arith, leb→le a b h.le)
le_parts (pos a) (negsuc b) h = absurd h.le
le_parts (negsuc a) (pos b) h = omega arith
le_parts (negsuc a) (negsuc b) h = omega (arith, leb→le b a h.le)

parts_le : (x y : ℤ) → up x + dn y ≤ up y + dn x → x ≼ y
parts_le (pos a) (pos b) h = record { le = le→leb a b (omega arith) }
parts_le (pos a) (negsuc b) h = absurd (omega arith)
parts_le (negsuc a) (pos b) h = record { le = tt }
parts_le (negsuc a) (negsuc b) h = record { le = le→leb b a (omega arith) }

parts_eq : (x y : ℤ) → up x + dn y ≡ up y + dn x → x ≡ y
parts_eq (pos a) (pos b) h = ap pos (omega arith)
parts_eq (pos a) (negsuc b) h = absurd (omega arith)
parts_eq (negsuc a) (pos b) h = absurd (omega arith)
parts_eq (negsuc a) (negsuc b) h = ap negsuc (omega arith)

-- ---- the difference of two naturals, which no proof outside computes

infix 60 ◌⊖◌
pub ◌⊖◌ : ℕ → ℕ → ℤ
p ⊖ n = sub_ℕ p n

⊖_parts : (p n : ℕ) → up (p ⊖ n) + n ≡ dn (p ⊖ n) + p
unfolding ◌⊖◌
⊖_parts p n = sub_parts p n

pub ⊖-+ : (p n q m : ℕ) → (p ⊖ n) +ℤ (q ⊖ m) ≡ (p + q) ⊖ (n + m)
⊖-+ p n q m =
    parts_eq _ _ (omega (arith, add_parts (p ⊖ n) (q ⊖ m), ⊖_parts p n, ⊖_parts q m, ⊖_parts (p + q) (n + m)))

pub ⊖_neg : (p n : ℕ) → neg_ℤ (p ⊖ n) ≡ n ⊖ p
⊖_neg p n = parts_eq _ _ (omega (arith, neg_parts (p ⊖ n), ⊖_parts p n, ⊖_parts n p))

pub ⊖-* : (p n q m : ℕ) → (p ⊖ n) *ℤ (q ⊖ m) ≡ (p * q + n * m) ⊖ (p * m + n * q)
⊖-* p n q m =
    parts_eq _ _ (omega (
      arith,
      mul_parts (p ⊖ n) (q ⊖ m),
      ⊖_parts (p * q + n * m) (p * m + n * q),
      ap (λ (k : ℕ). k * up (q ⊖ m)) (⊖_parts p n),
      ap (λ (k : ℕ). k * dn (q ⊖ m)) (⊖_parts p n),
      ap (λ (k : ℕ). p * k) (⊖_parts q m),
      ap (λ (k : ℕ). n * k) (⊖_parts q m),
    ))

-- ---- a statement that is being read: the marks, and how they come off

infix 50 ◌⊴◌ ◌≈◌
pub record ◌⊴◌ (x y : ℤ) : Type 0 where
  pub le : x ≼ y

pub record ◌≈◌ (x y : ℤ) : Type 0 where
  pub eq : x ≡ y

pub read : ℤ → ℤ
read z = z

pub read-≤ : (x y : ℤ) → x ≼ y ↔ (read x ⊴ read y)
unfolding read
read-≤ x y = (λ h. record { le = h }, λ h. h.le)

pub read-< : (x y : ℤ) → x ≺ y ↔ ¬ (y ≼ x)
read-< x y = (λ h k. clash_ℤ h k, tested (lt_z x y) lt_z_yes lt_z_no)
  where
    tested : (b : Bool) → (T b → x ≺ y) → (T (not b) → y ≼ x) → ¬ (y ≼ x) → x ≺ y
    tested true f g h = f tt
    tested false f g h = absurd (h (g tt))

-- a test's outcome, as a branch of the code leaves it
is_true : (b : Bool) → T b → b ≡ true
is_true true t = refl
is_true false t = absurd t

is_false : (b : Bool) → ¬ (T b) → b ≡ false
is_false true f = absurd (f tt)
is_false false f = refl

pub lt_z_true : (x y : ℤ) → lt_z x y ≡ true ↔ x ≺ y
lt_z_true x y = (λ e. lt_z_yes (rw e tt), λ h. is_true (lt_z x y) h.lt)

pub lt_z_false : (x y : ℤ) → lt_z x y ≡ false ↔ y ≼ x
lt_z_false x y = (λ e. lt_z_no (rw e tt), λ h. is_false (lt_z x y) (λ t. clash_ℤ (lt_z_yes t) h))

pub le_z_true : (x y : ℤ) → le_z x y ≡ true ↔ x ≼ y
le_z_true x y = (λ e. le_z_yes (rw e tt), λ h. is_true (le_z x y) h.le)

pub le_z_false : (x y : ℤ) → le_z x y ≡ false ↔ y ≺ x
le_z_false x y = (λ e. (read-< y x).1 (λ h. rw e at h.le), λ h. is_false (le_z x y) (λ t. clash_ℤ h (le_z_yes t)))

pub read-≡ : (x y : ℤ) → x ≡ y ↔ (read x ≈ read y)
unfolding read
read-≡ x y = (λ h. record { eq = h }, λ h. h.eq)

pub read-+ : (x y : ℤ) → read (x +ℤ y) ≡ read x +ℤ read y
unfolding read
read-+ x y = refl

pub read-* : (x y : ℤ) → read (x *ℤ y) ≡ read x *ℤ read y
unfolding read
read-* x y = refl

pub read_neg : (x : ℤ) → read (neg_ℤ x) ≡ neg_ℤ (read x)
unfolding read
read_neg x = refl

pub read_sub : (p n : ℕ) → read (sub_ℕ p n) ≡ p ⊖ n
unfolding read ◌⊖◌
read_sub p n = refl

-- a multiple by a natural is linear too
pub read_times : (k : ℕ) (x : ℤ) → read (pos k *ℤ x) ≡ (k ⊖ zero) *ℤ read x
unfolding read
read_times k x = ap (λ (c : ℤ). c *ℤ x) (parts_eq (pos k) (k ⊖ zero) (omega (arith, ⊖_parts k zero)))

pub read_multiple : (x : ℤ) (k : ℕ) → read (x *ℤ pos k) ≡ read x *ℤ (k ⊖ zero)
unfolding read
read_multiple x k = ap (λ (c : ℤ). x *ℤ c) (parts_eq (pos k) (k ⊖ zero) (omega (arith, ⊖_parts k zero)))

-- any term; its `up` and `dn` compute where it is a literal, so it stands last in the sets below
pub read_unknown : (z : ℤ) → read z ≡ up z ⊖ dn z
unfolding read
read_unknown z = parts_eq z (up z ⊖ dn z) (omega (arith, ⊖_parts (up z) (dn z)))

pub ⊖-⊴ : (p n q m : ℕ) → (p ⊖ n) ⊴ (q ⊖ m) ↔ (p + m ≤ q + n)
⊖-⊴ p n q m = (
  λ h. omega (arith, le_parts _ _ h.le, ⊖_parts p n, ⊖_parts q m),
  λ h. record { le = parts_le _ _ (omega (arith, ⊖_parts p n, ⊖_parts q m)) },
)

pub ⊖-≈ : (p n q m : ℕ) → (p ⊖ n) ≈ (q ⊖ m) ↔ (p + m ≡ q + n)
⊖-≈ p n q m = (
  λ h. omega (arith, ap up h.eq, ap dn h.eq, ⊖_parts p n, ⊖_parts q m),
  λ h. record { eq = parts_eq _ _ (omega (arith, ⊖_parts p n, ⊖_parts q m)) },
)

-- the order of the entries matters: `read_unknown` stands after the other laws of `read`
pub ruleset stated = (lt_z_true, lt_z_false, le_z_true, le_z_false, read-≤, read-<, read-≡)

pub ruleset gathered = (⊖-+, ⊖_neg, ⊖-*, ⊖-⊴, ⊖-≈)

ruleset products = (stated, read-+, read_neg, read_sub, read-*, read_unknown, gathered)

-- ---- products: the laws by which a polynomial becomes a sum of sorted monomials

pub *-+ : (a b c : ℤ) → a *ℤ (b +ℤ c) ≡ a *ℤ b +ℤ a *ℤ c
*-+ a b c = simp products (omega arith)

pub +-* : (a b c : ℤ) → (a +ℤ b) *ℤ c ≡ a *ℤ c +ℤ b *ℤ c
+-* a b c = simp products (omega arith)

pub neg-* : (a b : ℤ) → neg_ℤ a *ℤ b ≡ neg_ℤ (a *ℤ b)
neg-* a b = simp products (omega arith)

pub *_neg : (a b : ℤ) → a *ℤ neg_ℤ b ≡ neg_ℤ (a *ℤ b)
*_neg a b = simp products (omega arith)

pub *_assoc : (a b c : ℤ) → (a *ℤ b) *ℤ c ≡ a *ℤ (b *ℤ c)
*_assoc a b c = simp products (omega arith)

pub *_swap : (a b c : ℤ) → a *ℤ (b *ℤ c) ≡ b *ℤ (a *ℤ c)
*_swap a b c = simp products (omega arith)

-- a numeral at the end of a sorted monomial
pub read_coefficient : (x y : ℤ) (k : ℕ) → read (x *ℤ (y *ℤ pos k)) ≡ read (x *ℤ y) *ℤ (k ⊖ zero)
read_coefficient x y k = rw (← (*_assoc x y (pos k))) (read_multiple (x *ℤ y) k)

pub ruleset spread = (*-+, +-*, neg-*, *_neg, *_assoc, *_swap, *ℤ_comm)

pub ruleset linear = (stated, read-+, read_neg, read_sub, read_times, read_multiple, read_coefficient, read_unknown, gathered)

pub ruleset ring = (spread, linear)

-- hypotheses between unknowns, as `omega` takes them from where the call stands: `omega known` for `omega arith`
pub lt_parts : (x y : ℤ) → x ≺ y → up x + dn y < up y + dn x
lt_parts = simp linear (omega arith)

pub eq_parts : (x y : ℤ) → x ≡ y → up x + dn y ≡ up y + dn x
eq_parts = simp linear (omega arith)

pub ruleset known = (arith, le_parts, lt_parts, eq_parts)

-- ---- the order. Each is an instance of the recipe: they have names for `rw`, `simp`, `search` and `grw`

pub ≼_refl : (a : ℤ) → a ≼ a
≼_refl = simp linear (omega arith)

pub ≼_trans : {a b c : ℤ} → a ≼ b → b ≼ c → a ≼ c
≼_trans = simp linear (omega arith)

pub ≼_antisym : {a b : ℤ} → a ≼ b → b ≼ a → a ≡ b
≼_antisym = simp linear (omega arith)

pub ≼_of_≡ : {a b : ℤ} → a ≡ b → a ≼ b
≼_of_≡ = simp linear (omega arith)

pub ≼_of_< : {a b : ℤ} → a ≺ b → a ≼ b
≼_of_< = simp linear (omega arith)

pub <_of_≢ : {a b : ℤ} → a ≼ b → ¬ (a ≡ b) → a ≺ b
<_of_≢ = simp linear (omega arith)

pub <_one : (a b : ℤ) → a ≺ b ↔ a +ℤ pos 1 ≼ b
<_one = simp linear (omega arith)

pub pos-≼ : (m n : ℕ) → pos m ≼ pos n ↔ (m ≤ n)
pos-≼ = simp linear (omega arith)

pub sub_nonneg : (a b : ℤ) → a ≼ b ↔ pos zero ≼ b -ℤ a
sub_nonneg = simp linear (omega arith)

pub neg_anti : {a b : ℤ} → a ≼ b → neg_ℤ b ≼ neg_ℤ a
neg_anti = simp linear (omega arith)

pub +_mono : {a b c d : ℤ} → a ≼ b → c ≼ d → a +ℤ c ≼ b +ℤ d
+_mono = simp linear (omega arith)

pub ≼_or_< : (a b : ℤ) → (a ≼ b) ⊎ (b ≺ a)
≼_or_< a b = decided (dec_le (up a + dn b) (up b + dn a))
  where
    decided : Dec (up a + dn b ≤ up b + dn a) → (a ≼ b) ⊎ (b ≺ a)
    decided (yes h) = inl (simp linear (omega arith))
    decided (no h) = inr (simp linear (omega arith))

-- a product's sign, and from it the order of products
pub *_nonneg : (a b : ℤ) → pos zero ≼ a → pos zero ≼ b → pos zero ≼ a *ℤ b
*_nonneg (pos a) (pos b) h k = simp linear (omega arith)
*_nonneg (pos a) (negsuc b) h k = absurd k.le
*_nonneg (negsuc a) b h k = absurd h.le

pub *_mono : (c a b : ℤ) → pos zero ≼ c → a ≼ b → c *ℤ a ≼ c *ℤ b
*_mono c a b h k =
    given (*_nonneg c (b -ℤ a) h (simp linear (omega known))) (simp ring (omega arith))

pub *_anti : (c a b : ℤ) → c ≼ pos zero → a ≼ b → c *ℤ b ≼ c *ℤ a
*_anti c a b h k =
    given (*_mono (neg_ℤ c) a b (simp linear (omega known)) k) (simp ring (omega arith))

pub *_pos : (a b : ℤ) → pos zero ≺ a → pos zero ≺ b → pos zero ≺ a *ℤ b
*_pos a b h k =
    given (*_nonneg (a -ℤ pos 1) (b -ℤ pos 1) (simp linear (omega known)) (simp linear (omega known)))
    (simp ring (omega known))

pub *_cancel : (c a b : ℤ) → pos zero ≺ c → c *ℤ a ≼ c *ℤ b → a ≼ b
*_cancel c a b h k = reached (≼_or_< a b)
  where
    reached : (a ≼ b) ⊎ (b ≺ a) → a ≼ b
    reached (inl l) = l
    reached (inr g) = absurd (given (*_pos c (a -ℤ b) h (simp linear (omega known))) (given k (simp ring (omega arith))))

-- ---- the part above zero

pub above_zero_nonneg : (z : ℤ) → pos zero ≼ above_zero z
unfolding above_zero
above_zero_nonneg z = simp linear (omega arith)

pub above_zero_above : (z : ℤ) → z ≼ above_zero z
unfolding above_zero
above_zero_above z = simp linear (omega arith)

pub above_zero_least : (z b : ℤ) → z ≼ b → pos zero ≼ b → above_zero z ≼ b
unfolding above_zero
above_zero_least (pos n) b h k = h
above_zero_least (negsuc n) b h k = k

pub above_zero_of_nonneg : (z : ℤ) → pos zero ≼ z → above_zero z ≡ z
above_zero_of_nonneg z h = ≼_antisym (above_zero_least z z (≼_refl z) h) (above_zero_above z)

pub above_zero_of_nonpos : (z : ℤ) → z ≼ pos zero → above_zero z ≡ pos zero
above_zero_of_nonpos z h = ≼_antisym (above_zero_least z (pos zero) h (≼_refl (pos zero))) (above_zero_nonneg z)
