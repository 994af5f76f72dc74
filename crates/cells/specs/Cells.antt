-- A table that has a number for each zone and period, all periods of zone 0 first, in 200 cells; and what adding a number at one place
-- makes of it. Assumes nothing.
use Rattle.std.specs.Prelude.{ℕ, ◌+◌, ◌*◌, ◌/◌, ◌%◌, ◌≤◌, ◌<◌, ◌≡◌, refl, Bool, true, false, cond, List, eqb, ℤ, pos, neg_ℤ, nat_abs, ◌+ℤ◌, length, get_or, set, replicate}
use Rattle.std.proofs.Common.{zero-add, mul-le-mul, div-lt_iff_lt-mul, mod-lt, arith, sym, ap, ◌∙◌, length-set, get_or-set_same, get_or-set_other}
use Rattle.std.proofs.Math.Nat.{mod-add-div}
use Rattle.std.proofs.Math.Decide.{ℕ_discrete}
use Rattle.std.proofs.Math.Arith.{digits_div, digits_mod}
use Rattle.std.proofs.Math.IntN.{+ℤ_idr, +ℤ_assoc}
use Rattle.std.proofs.lemmas.List.{length-replicate, get_or-replicate}
use Rattle.whole.specs.Whole.{at}
use Rattle.whole.proofs.Sums.{at_same, at_other}
use Rattle.whole.proofs.Size.{abs-+}

-- x more in the cell k
abbrev pub added : List ℤ → ℕ → ℤ → List ℤ
added table k x = set table k (get_or table k (pos 0) +ℤ x)

pub record Tabled (zones periods : ℕ) (f : ℕ → ℕ → ℤ) (table : List ℤ) : Type 0 where
  pub long : length table ≡ 200
  pub each : (zone period : ℕ) → zone < zones → period < periods → get_or table (zone * periods + period) (pos 0) ≡ f zone period

-- g more in each cell
pub record Gained (zones periods : ℕ) (g : ℕ → ℕ → ℤ) (before after : List ℤ) : Type 0 where
  pub long : length after ≡ length before
  pub each : (zone period : ℕ) → zone < zones → period < periods →
      get_or after (zone * periods + period) (pos 0) ≡ get_or before (zone * periods + period) (pos 0) +ℤ g zone period

-- no cell further from zero than the bound
abbrev pub Within : ℕ → ℕ → ℕ → List ℤ → Type 0
Within zones periods bound table = (zone period : ℕ) → zone < zones → period < periods → nat_abs (get_or table (zone * periods + period) (pos 0)) ≤ bound

-- ---- a number at one place

pub at_none : (k i : ℕ) → at k (pos 0) i ≡ pos 0
unfolding at
at_none k i = by (eqb i k)
  where
    by : (b : Bool) → cond b (pos 0) (pos 0) ≡ pos 0
    by true = refl
    by false = refl

pub at_neg : (k : ℕ) (x : ℤ) (i : ℕ) → at k (neg_ℤ x) i ≡ neg_ℤ (at k x i)
unfolding at
at_neg k x i = by (eqb i k)
  where
    by : (b : Bool) → cond b (neg_ℤ x) (pos 0) ≡ neg_ℤ (cond b x (pos 0))
    by true = refl
    by false = refl

-- ---- one cell

-- what is read of a table at any place, the one that was added to or another
added_at : (table : List ℤ) (k : ℕ) (x : ℤ) (c : ℕ) → k < length table → get_or (added table k x) c (pos 0) ≡ get_or table c (pos 0) +ℤ at k x c
added_at table k x c l = by (ℕ_discrete c k)
  where
    by : Dec (c ≡ k) → get_or (added table k x) c (pos 0) ≡ get_or table c (pos 0) +ℤ at k x c
    by (yes e) = rw (e, get_or-set_same table k _ (pos 0) l, at_same)
    by (no e) = rw (get_or-set_other table k c _ (pos 0) e, at_other k x c e, +ℤ_idr)

-- a cell is that of one zone and one period
one_cell : {periods zone period z h : ℕ} → period < periods → h < periods → z * periods + h ≡ zone * periods + period → (z ≡ zone) × (h ≡ period)
one_cell {periods} {zone} {period} {z} {h} p q e = (
  sym (digits_div z q) ∙ ap (λ (n : ℕ). n / periods) e ∙ digits_div zone p,
  sym (digits_mod z q) ∙ ap (λ (n : ℕ). n % periods) e ∙ digits_mod zone p,
)

at_cell : (periods zone period : ℕ) (x : ℤ) (z h : ℕ) → period < periods → h < periods →
    at (zone * periods + period) x (z * periods + h) ≡ at zone (at period x h) z
at_cell periods zone period x z h p q = by (ℕ_discrete z zone) (ℕ_discrete h period)
  where
    by : Dec (z ≡ zone) → Dec (h ≡ period) → at (zone * periods + period) x (z * periods + h) ≡ at zone (at period x h) z
    by (yes e) (yes f) = rw (e, f, at_same, at_same, at_same)
    by (yes e) (no f) = rw (at_other (zone * periods + period) x (z * periods + h) (λ g. f (one_cell p q g).1), e, at_same, at_other period x h f)
    by (no e) _ = rw (at_other (zone * periods + period) x (z * periods + h) (λ g. e (one_cell p q g).0), at_other zone (at period x h) z e)

-- ---- what is gained

module _ {zones periods : ℕ} where
  pub nothing_gained : {a : List ℤ} → Gained zones periods (λ _ _. pos 0) a a
  nothing_gained = record { long = refl; each = λ z h _ _. sym (+ℤ_idr _) }

  -- x at one zone and period
  pub gained_at : {a : List ℤ} (zone period : ℕ) → zone * periods + period < length a → period < periods → (x : ℤ) →
      Gained zones periods (λ z h. at zone (at period x h) z) a (added a (zone * periods + period) x)
  gained_at {a} zone period l k x = record {
    long = length-set a (zone * periods + period) _;
    each = λ z h _ b. added_at a (zone * periods + period) x (z * periods + h) l ∙ rw (at_cell periods zone period x z h k b);
  }

  module _ {f : ℕ → ℕ → ℤ} {a b : List ℤ} (s : Gained zones periods f a b) where
    -- one after the other
    pub gained_then : {g : ℕ → ℕ → ℤ} {c : List ℤ} → Gained zones periods g b c → Gained zones periods (λ z h. f z h +ℤ g z h) a c
    gained_then t = record {
      long = t.long ∙ s.long;
      each = λ z h l k. rw (t.each z h l k, s.each z h l k, +ℤ_assoc);
    }

    pub gained_same : {g : ℕ → ℕ → ℤ} → ((zone period : ℕ) → zone < zones → period < periods → f zone period ≡ g zone period) → Gained zones periods g a b
    gained_same e = record { long = s.long; each = λ z h l k. rw (← e z h l k) (s.each z h l k) }

    pub within_gained : {bound more : ℕ} → Within zones periods bound a →
        ((zone period : ℕ) → zone < zones → period < periods → nat_abs (f zone period) ≤ more) →
        Within zones periods (bound + more) b
    within_gained w m z h l k = rw (s.each z h l k) (omega (arith, abs-+ (get_or a (z * periods + h) (pos 0)) (f z h), w z h l k, m z h l k))

    pub tabled_gained : {t : ℕ → ℕ → ℤ} → Tabled zones periods t a → Tabled zones periods (λ z h. t z h +ℤ f z h) b
    tabled_gained t = record { long = s.long ∙ t.long; each = λ z h l k. rw (s.each z h l k, t.each z h l k) }

-- x at one place of a row of sums
pub gained_in_row : (sums : List ℤ) (s : ℕ) → s < 5 → length sums ≡ 5 → (x : ℤ) → Gained 1 5 (λ _ k. at s x k) sums (added sums s x)
gained_in_row sums s l long x =
    let g : Gained 1 5 (λ z k. at 0 (at s x k) z) sums (added sums (0 + s) x) = gained_at 0 s (rw (zero-add, long) l) l x in
    gained_same (rw zero-add at g) (λ z k b _. let none : z ≡ 0 = omega (arith, b) in rw (none, at_same))

-- ---- all cells

module _ {zones periods : ℕ} (small : zones * periods ≤ 200) where
  pub cell_below : {zone period : ℕ} → zone < zones → period < periods → zone * periods + period < 200
  cell_below {zone} {period} l k =
      let h : (zone + 1) * periods ≤ zones * periods = mul-le-mul {n₂ = zones} {m₂ = periods} (omega arith) (omega arith) in
      omega arith

  -- nothing yet
  pub none_tabled : Tabled zones periods (λ _ _. pos 0) (replicate 200 (pos 0))
  none_tabled = record {
    long = length-replicate 200 (pos 0);
    each = λ zone period l k. get_or-replicate 200 (zone * periods + period) (pos 0) (pos 0) (cell_below l k);
  }

  module _ {f : ℕ → ℕ → ℤ} {table : List ℤ} (t : Tabled zones periods f table) where
    -- x more at one zone and period
    pub more_tabled : {zone period : ℕ} → zone < zones → period < periods → (x : ℤ) →
        Tabled zones periods (λ z h. f z h +ℤ at zone (at period x h) z) (added table (zone * periods + period) x)
    more_tabled {zone} {period} l k x = record {
      long = length-set table (zone * periods + period) _ ∙ t.long;
      each = λ z h a b. rw (
        added_at table (zone * periods + period) x (z * periods + h) (rw t.long (cell_below l k)),
        t.each z h a b,
        at_cell periods zone period x z h k b,
      );
    }

    pub same_tabled : {g : ℕ → ℕ → ℤ} → ((zone period : ℕ) → zone < zones → period < periods → f zone period ≡ g zone period) → Tabled zones periods g table
    same_tabled e = record { long = t.long; each = λ z h a b. t.each z h a b ∙ e z h a b }

    -- the cells one after the other
    pub row_tabled : 1 ≤ periods → {k : ℕ} → k < zones * periods → get_or table k (pos 0) ≡ f (k / periods) (k % periods)
    row_tabled least {k} l =
        let zone = k / periods in
        let period = k % periods in
        let same : zone * periods + period ≡ k = omega (arith, mod-add-div k periods) in
        rw same at (t.each zone period ((div-lt_iff_lt-mul least).1 l) (mod-lt k least))
