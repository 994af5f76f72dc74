-- The laws by which a nested loop looks for the first cell of a table at which a test fails. Assumes nothing.
use Rattle.std.specs.Prelude.{ℕ, zero, suc, ◌+◌, ◌<◌, ◌≤◌, ◌≡◌, refl, ◌⊎◌, Bool, false}
use Rattle.std.proofs.Common.{le_of_suc-le-suc, not-suc-le-zero, eq-or-lt_of_le, le_antisymm, add-one, sym, inl, inr}
use Rattle.stages.specs.First.{first_bad, Passed}
use Rattle.stages.proofs.FirstLaws.{stop, done}
use Rattle.stages.specs.Table.{first_cell, RowsPassed}
use Rattle.std.specs.Prelude.{Some, None}

-- ---- the laws a nested loop goes by

pub no_row_yet : (t : ℕ → ℕ → Bool) (cols : ℕ) → RowsPassed t cols 0
no_row_yet t cols = record { nowhere = refl }

-- the row z passes
pub row_passes : {t : ℕ → ℕ → Bool} {cols z : ℕ} → RowsPassed t cols z → None ≡ first_bad cols (t z) → RowsPassed t cols (z + 1)
row_passes p e = record { nowhere = rw (add-one, p.nowhere, ← e) }

pub row_more : {t : ℕ → ℕ → Bool} {cols z i : ℕ} → RowsPassed t cols z → Passed (t z) i → i ≤ cols → cols ≤ i → RowsPassed t cols (z + 1)
row_more p q l m = row_passes p (done q l m)

-- it fails, first at the column i
stop_row : {t : ℕ → ℕ → Bool} {cols z i : ℕ} (rows : ℕ) → RowsPassed t cols z → Some i ≡ first_bad cols (t z) → z < rows →
    first_cell rows cols t ≡ Some (z, i)
stop_row zero p e m = absurd (not-suc-le-zero m)
stop_row {t} {cols} {z} {i} (suc rows) p e m = last (eq-or-lt_of_le (le_of_suc-le-suc m)) (λ n. stop_row rows p e n)
  where
    last : (z ≡ rows) ⊎ (z < rows) → (z < rows → first_cell rows cols t ≡ Some (z, i)) → first_cell (suc rows) cols t ≡ Some (z, i)
    last (inl r) h = rw (← r, p.nowhere, ← e)
    last (inr n) h = rw (h n)

pub row_fails : {t : ℕ → ℕ → Bool} {cols z i rows : ℕ} → RowsPassed t cols z → Some i ≡ first_bad cols (t z) → z < rows → Some (z, i) ≡ first_cell rows cols t
row_fails {rows = rows} p e m = sym (stop_row rows p e m)

pub stop_cell : {t : ℕ → ℕ → Bool} {cols z i rows : ℕ} → RowsPassed t cols z → Passed (t z) i → t z i ≡ false → i < cols → z < rows →
    Some (z, i) ≡ first_cell rows cols t
stop_cell p q e l m = row_fails p (stop q e l) m

pub done_table : {t : ℕ → ℕ → Bool} {cols z rows : ℕ} → RowsPassed t cols z → z ≤ rows → rows ≤ z → None ≡ first_cell rows cols t
done_table p l m = rw (le_antisymm l m) at (sym p.nowhere)
