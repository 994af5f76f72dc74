-- That a section's stages say what a section guarantees that reads without fault, and which field of a bad row is the first that fails.
-- Assumes nothing.
use Rattle.std.specs.Prelude.{ℕ, ◌+◌, ◌*◌, ◌≡◌, refl, ◌↔◌, Bool, List, leb, length}
use Rattle.std.proofs.Common.{arith, ap, inl, inr, ⊎_elim, leb-true, le-leb}
use Rattle.stages.specs.First.{every_is, both}
use Rattle.stages.specs.Stage.{Stage, once, place, field_place, Holds, BrokenAt, Means, broken_here}
use Rattle.stages.specs.declared.Place.{Place}
use Rattle.sections.specs.Section.{Numbers, between, count, table, section}
use Rattle.sections.specs.Good.{GoodSection, Head, head, with_rows_lem, FirstBad, OwnNumber}
use Rattle.std.specs.Prelude.{Err}
use Rattle.stages.specs.Stage.{clean}

-- that is what the section's stages say
module _ (numbers : Numbers) (number least most size fields : ℕ) (ok : ℕ → ℕ → Bool) (part : List ℕ) where
  abbrev counts_stage : Stage
  counts_stage = once numbers.cut (place number 0) (leb 2 (length part))

  abbrev limit_stage : Stage
  limit_stage = once numbers.beyond (place number 0) (between least most (count part))

  abbrev room_stage_lem : Stage
  room_stage_lem = once numbers.cut (place number 0) (leb (2 + size * count part) (length part))

  abbrev rows_stage : Stage
  rows_stage = table numbers.bad number (count part) fields ok

  head_of_lem : Holds counts_stage → Holds limit_stage → Holds room_stage_lem → Head least most size part
  head_of_lem h i j =
      let limits = (both (leb least (count part)) (leb (count part) most)).0 (i 0 0 (omega arith) (omega arith)) in
      record {
        counted = leb-true 2 (length part) (h 0 0 (omega arith) (omega arith));
        at_least = leb-true least (count part) limits.0;
        at_most = leb-true (count part) most limits.1;
        room = leb-true (2 + size * count part) (length part) (j 0 0 (omega arith) (omega arith));
      }

  of_head : Head least most size part → {A : Type 0} → A → Holds counts_stage × (Holds limit_stage × (Holds room_stage_lem × A))
  of_head h a = (
    λ z i _ _. le-leb 2 (length part) h.counted,
    (
      λ z i _ _. (both (leb least (count part)) (leb (count part) most)).1 (le-leb least (count part) h.at_least, le-leb (count part) most h.at_most),
      (λ z i _ _. le-leb (2 + size * count part) (length part) h.room, a),
    ),
  )

  -- clean
  pub section_clean : Means (section numbers number least most size fields ok part) clean ↔ GoodSection least most size fields ok part
  section_clean = (
    λ m. with_rows_lem (head_of_lem m.0 m.1.0 m.1.1.0) (λ i l. (every_is fields (ok i)).1 (λ f k. m.1.1.1.0 i f l k)),
    λ g. of_head (head g) (λ i f l k. (every_is fields (ok i)).0 (g.rows i l) f k, tt),
  )

  -- broken with the number of a bad row
  module _ (own : OwnNumber numbers) (s row field : ℕ) where
    abbrev First : Type 0
    First = (number ≡ s) × FirstBad least most size fields ok part row field

    first : Head least most size part → BrokenAt rows_stage numbers.bad (field_place s row field) → First
    first h b = let r = broken_here rows_stage (λ q. q.second) (λ q. q.third) (λ i f. refl) (λ i f. refl) b in (
      ap (λ (q : Place). q.first) b.named,
      record {
        counted = h.counted;
        at_least = h.at_least;
        at_most = h.at_most;
        room = h.room;
        row_is = r.row;
        field_is = r.col;
        fails = r.fails;
        rows_before = λ i l. (every_is fields (ok i)).1 (λ f k. r.above i f l k);
        fields_before = r.left;
      },
    )

    pub section_bad : Means (section numbers number least most size fields ok part) (Err (numbers.bad, field_place s row field)) ↔ First
    section_bad = (
      λ m. ⊎_elim (λ b. absurd (own.0 b.number)) (λ m1.
          ⊎_elim (λ b. absurd (own.1 b.number)) (λ m2.
          ⊎_elim (λ b. absurd (own.0 b.number)) (λ m3.
          ⊎_elim (λ b. first (head_of_lem m1.0 m2.0 m3.0) b) (λ m4. absurd m4.1) m3.1) m2.1) m1.1) m,
      λ f.
          let g = f.1 in
          let b : BrokenAt rows_stage numbers.bad (field_place s row field) = record {
            row = row;
            col = field;
            number = refl;
            named = ap (λ (n : ℕ). field_place n row field) f.0;
            breaks = record {
              row = g.row_is;
              col = g.field_is;
              fails = g.fails;
              above = λ i j l k. (every_is fields (ok i)).0 (g.rows_before i l) j k;
              left = g.fields_before;
            };
          } in
          let h = of_head (record { counted = g.counted; at_least = g.at_least; at_most = g.at_most; room = g.room }) b in
          inr (h.0, inr (h.1.0, inr (h.1.1.0, inl h.1.1.1))),
    )
