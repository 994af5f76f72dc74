-- What the look-up promises: when it is refused, what it then gives, that what it gives is a part of the file, and that its contracts allow
-- one answer. Assumes nothing.
use Rattle.std.specs.Prelude.{ℕ, zero, suc, ◌+◌, ◌*◌, ◌≤◌, ◌≡◌, refl, ◌↔◌, Bool, true, false, List, [], ◌∷◌, leb, eqb, length, take, drop}
use Rattle.std.proofs.Common.{add_comm, arith, sym, ap, ◌∙◌, drop-drop, leb-true, le-leb}
use Rattle.stages.specs.First.{both}
use Rattle.stages.specs.Stage.{Means, first_fault, answer}
use Rattle.stages.proofs.StageLaws.{means}
use Rattle.stages.specs.declared.Place.{Place}
use Rattle.sections.specs.Section.{count, rows, onward}
use Rattle.rows.specs.Rows.{row_size}
use Rattle.rows.specs.declared.Kind.TheVariants.{Periods, Zones, Lines, Steps, Blocks}
use Rattle.day.specs.Day.{periods, zones_part, lines_part, steps_part, blocks_part}
use Rattle.day.specs.Good.{GoodDay, day_clean}
use Rattle.parts.specs.Of.{zones_at, lines_at, steps_at, blocks_at}
use Rattle.lookup.specs.LookUp.{pick, rows_of, rows_at, look_up_stages, look_up, look_up_at}
use Rattle.std.specs.Prelude.{Ok, Err}
use Rattle.stages.specs.Stage.{Fault, clean}

module _ (section : ℕ) (day : List ℕ) where
  -- not refused just where the section is 1 to 5 and the day file reads without fault
  pub found_is : (first_fault (look_up_stages section day) ≡ clean) ↔ (((1 ≤ section) × (section ≤ 5)) × GoodDay day)
  found_is = (
    λ e.
        let m = (means (look_up_stages section day) clean).0 e in
        let b = (both (leb 1 section) (leb section 5)).0 (m.0 0 0 (omega arith) (omega arith)) in
        ((leb-true 1 section b.0, leb-true section 5 b.1), (day_clean day).0 m.1),
    λ g. (means (look_up_stages section day) clean).1
        (λ z i _ _. (both (leb 1 section) (leb section 5)).1 (le-leb 1 section g.0.0, le-leb section 5 g.0.1), (day_clean day).1 g.1),
  )

  -- refused with a number and a place just where that is the first fault, 19 before the day file's own
  pub refused_is : (k : ℕ) (p : Place) → (first_fault (look_up_stages section day) ≡ Err (k, p)) ↔ Means (look_up_stages section day) (Err (k, p))
  refused_is k p = means (look_up_stages section day) (Err (k, p))

  -- refused, it gives an empty part
  pub refused_gives : (k : ℕ) (p : Place) → first_fault (look_up_stages section day) ≡ Err (k, p) → look_up section day ≡ []
  refused_gives k p e = rw e

  -- not refused, it gives the section's rows
  pub found_gives : first_fault (look_up_stages section day) ≡ clean → look_up section day ≡ rows_of section day
  found_gives e = rw e

-- an empty section gives an empty part
pub empty_gives : (size : ℕ) (part : List ℕ) → count part ≡ 0 → rows size part ≡ []
empty_gives size part e = rw e (by (drop 2 part))
  where
    by : (l : List ℕ) → take (size * 0) l ≡ []
    by l = let z : size * 0 ≡ 0 = omega arith in rw z

-- ---- what is given is a part of the file

take_own : (n : ℕ) (l : List ℕ) → take n l ≡ take (length (take n l)) l
take_own zero l = refl
take_own (suc n) [] = refl
take_own (suc n) (x ∷ l) = ap (λ (t : List ℕ). x ∷ t) (take_own n l)

-- the bytes of l from `at` on
pub record PartAt (l : List ℕ) (at : ℕ) (part : List ℕ) : Type 0 where
  pub bytes : part ≡ take (length part) (drop at l)

further : (n : ℕ) (l : List ℕ) (at : ℕ) {part : List ℕ} → part ≡ drop at l → drop n part ≡ drop (n + at) l
further n l at e = ap (drop n) e ∙ drop-drop n at l ∙ rw (add_comm at n)

rows_part : (size : ℕ) (l : List ℕ) (at : ℕ) (part : List ℕ) → part ≡ drop at l → PartAt l (2 + at) (rows size part)
rows_part size l at part e =
    record { bytes = take_own (size * count part) (drop 2 part) ∙ ap (take (length (rows size part))) (further 2 l at e) }

pick_part : (b : Bool) {l : List ℕ} {at at' : ℕ} {part part' : List ℕ} → PartAt l at part → PartAt l at' part' → PartAt l (pick b at at') (pick b part part')
pick_part true p q = p
pick_part false p q = q

rows_of_part : (section : ℕ) (day : List ℕ) → PartAt day (rows_at section day) (rows_of section day)
rows_of_part section day =
    let h = periods day in
    let lines = further (2 + row_size Zones h * count (zones_part day)) day (zones_at day) refl in
    let steps = further (2 + row_size Lines h * count (lines_part day)) day (lines_at day) lines in
    let blocks = further (2 + row_size Steps h * count (steps_part day)) day (steps_at day) steps in
    pick_part (eqb section 1) (rows_part (row_size Periods 0) day 0 day refl)
    (pick_part (eqb section 2) (rows_part (row_size Zones h) day (zones_at day) (zones_part day) refl)
    (pick_part (eqb section 3) (rows_part (row_size Lines h) day (lines_at day) (lines_part day) lines)
    (pick_part (eqb section 4) (rows_part (row_size Steps h) day (steps_at day) (steps_part day) steps)
    (pick_part (eqb section 5) (rows_part (row_size Blocks h) day (blocks_at day) (blocks_part day) blocks)
    (record { bytes = refl })))))

-- for every section and every file: the bytes given are those of the file at the place where the part stands
pub part_of_file : (section : ℕ) (day : List ℕ) → PartAt day (look_up_at section day) (look_up section day)
part_of_file section day = by (first_fault (look_up_stages section day))
  where
    by : (f : Fault) → PartAt day (answer (rows_at section day) (λ r. 0) f) (answer (rows_of section day) (λ r. []) f)
    by (Ok _) = rows_of_part section day
    by (Err (k, p)) = record { bytes = refl }

-- ---- the contracts of `look_up` and `look_up_fault` allow one answer

pub one_part : (section : ℕ) (day : List ℕ) (file : ℕ × ℕ) {r s : List ℕ} {p q : ℕ × ℕ} → r ≡ look_up section day → p ≡ onward (look_up_at section day) file →
    s ≡ look_up section day → q ≡ onward (look_up_at section day) file → (r ≡ s) × (p ≡ q)
one_part section day file a b c d = (a ∙ sym c, b ∙ sym d)

pub one_fault : (section : ℕ) (day : List ℕ) {r s : Fault} → r ≡ first_fault (look_up_stages section day) → s ≡ first_fault (look_up_stages section day) → r ≡ s
one_fault section day p q = p ∙ sym q
