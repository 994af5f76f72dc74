-- What a refusal's number and place mean, proved: which numbers there are, and the refusals by a rule and by the room as sentences.
-- Assumes nothing.
use Rattle.std.specs.Prelude.{ℕ, ◌<◌, ◌≤◌, ◌≡◌, refl, ◌↔◌, ◌⊎◌, List, [], ◌∷◌, ◌++◌}
use Rattle.std.proofs.Common.{arith, inl, inr, ⊎_elim, leb-false}
use Rattle.std.proofs.Math.Logic.Iff
use Rattle.std.proofs.lemmas.Bool.{lt-leb}
use Rattle.stages.specs.Stage.{Stage, place, field_place, first_fault, answer, Breaks, BrokenAt, Holds, Means, broken_here}
use Rattle.stages.proofs.StageLaws.{means}
use Rattle.stages.specs.declared.Place.{Place}
use Rattle.market.specs.Market.{Day, Choice, Prices}
use Rattle.market.specs.Rules.{number, order, rule_stage, rule_stages}
use Rattle.market.proofs.RuleLaws.{test_is, breach, rule_holds, listed, each_rule, lawful_is}
use Rattle.market.specs.declared.Rule.{Rule}
use Rattle.market.specs.declared.Rule.TheVariants.{Price, Capacity, Quantity, Ratio, Whole, Balance, Step, Line, Block}
use Rattle.day.specs.declared.Counts.{Counts}
use Rattle.day.specs.Day.{counts, day_stages}
use Rattle.day.specs.Good.{GoodDay, day_clean}
use Rattle.day.specs.Fields.{DayField, day_field}
use Rattle.clearing.specs.Clearing.{clearing_stages, file_stages}
use Rattle.clearing.specs.Good.{GoodClearing, files_clean}
use Rattle.clearing.specs.Fields.{ClearingField, clearing_field}
use Rattle.verdict.specs.Verdict.{day_of, prices_of, choice_of, totals_of, statement_length_of, room_stage, stages, verdict, number_of}
use Rattle.demands.specs.Sentences.{turn, FirstBreach, TooShort}
use Rattle.demands.proofs.Laws.{refused_is_broken}
use Rattle.stages.specs.Lists.{Each, Numbers, turn_in, InTurn, broken-++, each_in, each-++, each_so, numbered, placed, in_first, in_second, in_turn_broken}
use Rattle.std.specs.Prelude.{Ok, Err}
use Rattle.stages.specs.Stage.{Fault, clean}

-- ==== the numbers of the files, and their places

abbrev FromTo : ℕ → ℕ → ℕ → Type 0
FromTo least most k = (least ≤ k) × (k ≤ most)

-- a section's four stages, and what comes after it
four : {A B C R : Type 0} → A → B → C → R → A × (B × (A × (C × R)))
four a b c r = (a, (b, (a, (c, r))))

day_numbers_lem : (day : List ℕ) → Numbers (FromTo 1 4) (day_stages day)
unfolding day_stages
day_numbers_lem day = section (section (section (section (section ((omega arith, omega arith), tt)))))
  where
    section : {R : Type 0} → R → FromTo 1 4 1 × (FromTo 1 4 2 × (FromTo 1 4 1 × (FromTo 1 4 3 × R)))
    section = four (omega arith, omega arith) (omega arith, omega arith) (omega arith, omega arith)

clearing_numbers_lem : (c : Counts) (clearing : List ℕ) → Numbers (FromTo 5 8) (clearing_stages c clearing)
unfolding clearing_stages
clearing_numbers_lem c clearing = section (section (section (section ((omega arith, omega arith), tt))))
  where
    section : {R : Type 0} → R → FromTo 5 8 5 × (FromTo 5 8 6 × (FromTo 5 8 5 × (FromTo 5 8 7 × R)))
    section = four (omega arith, omega arith) (omega arith, omega arith) (omega arith, omega arith)

-- numbers of a smaller range are numbers of a larger one
wider : (a b c d : ℕ) (ss : List Stage) → c ≤ a → b ≤ d → Numbers (FromTo a b) ss → Numbers (FromTo c d) ss
wider a b c d ss l m = each_so _ _ ss (λ s h. (omega (arith, l, h.0), omega (arith, m, h.1)))

-- the files are refused with a number from 1 to 8
pub file_numbers : (day clearing : List ℕ) → Numbers (λ (k : ℕ). (1 ≤ k) × (k ≤ 8)) (file_stages day clearing)
file_numbers day clearing =
    each-++ (λ (s : Stage). FromTo 1 8 s.number) (day_stages day) (clearing_stages (counts day) clearing)
    (wider 1 4 1 8 (day_stages day) (omega arith) (omega arith) (day_numbers_lem day))
    (wider 5 8 1 8 (clearing_stages (counts day) clearing) (omega arith) (omega arith) (clearing_numbers_lem (counts day) clearing))

-- a place names a field for the numbers 3 and 7 alone
abbrev FieldOnly : ℕ → Place → Type 0
FieldOnly k p = ¬ (k ≡ 3) → ¬ (k ≡ 7) → p.third ≡ 0

abbrev FieldOnlyOf : Stage → Type 0
FieldOnlyOf s = (z i : ℕ) → FieldOnly s.number (s.named z i)

-- a section with these numbers of its stages, and what comes after it: of the day file, and of the clearing file
abbrev SectionOnly : ℕ → ℕ → ℕ → ℕ → Type 0 → Type 0
SectionOnly cut beyond bad n R =
    ((z i : ℕ) → FieldOnly cut (place n 0))
    × (((z i : ℕ) → FieldOnly beyond (place n 0))
    × (((z i : ℕ) → FieldOnly cut (place n 0))
    × (((z i : ℕ) → FieldOnly bad (field_place n z i)) × R)))

in_day_lem : (n : ℕ) {R : Type 0} → R → SectionOnly 1 2 3 n R
in_day_lem n = four (λ z i _ _. refl) (λ z i _ _. refl) (λ z i no _. absurd (no refl))

in_clearing_lem : (n : ℕ) {R : Type 0} → R → SectionOnly 5 6 7 n R
in_clearing_lem n = four (λ z i _ _. refl) (λ z i _ _. refl) (λ z i _ no. absurd (no refl))

day_places : (day : List ℕ) → Each FieldOnlyOf (day_stages day)
unfolding day_stages
day_places day = in_day_lem 1 (in_day_lem 2 (in_day_lem 3 (in_day_lem 4 (in_day_lem 5 (λ z i _ _. refl, tt)))))

clearing_places : (c : Counts) (clearing : List ℕ) → Each FieldOnlyOf (clearing_stages c clearing)
unfolding clearing_stages
clearing_places c clearing = in_clearing_lem 1 (in_clearing_lem 2 (in_clearing_lem 3 (in_clearing_lem 4 (λ z i _ _. refl, tt))))

-- ==== the rules

-- the numbers of the rules, and with the room's, 18, all that come after the files
abbrev RuleNumber : ℕ → Type 0
RuleNumber k = FromTo 11 17 k ⊎ FromTo 20 21 k

abbrev AfterNumber : ℕ → Type 0
AfterNumber k = FromTo 11 18 k ⊎ FromTo 20 21 k

rule_after : {k : ℕ} → RuleNumber k → AfterNumber k
rule_after (inl h) = inl (h.0, omega (arith, h.1))
rule_after (inr h) = inr h

after_beyond : {k : ℕ} → AfterNumber k → 8 < k
after_beyond (inl h) = omega (arith, h.0)
after_beyond (inr h) = omega (arith, h.0)

not_the_room : {k : ℕ} → RuleNumber k → ¬ (18 ≡ k)
not_the_room (inl h) e = omega (arith, h.1, e)
not_the_room (inr h) e = omega (arith, h.0, e)

module _ (d : Day) (p : Prices) (c : Choice) where
  abbrev stage_of : Rule → Stage
  stage_of = rule_stage d p c

  rule_number : (rule : Rule) → RuleNumber (number rule)
  rule_number Price = inl (omega arith, omega arith)
  rule_number Capacity = inl (omega arith, omega arith)
  rule_number Quantity = inl (omega arith, omega arith)
  rule_number Ratio = inr (omega arith, omega arith)
  rule_number Whole = inr (omega arith, omega arith)
  rule_number Balance = inl (omega arith, omega arith)
  rule_number Step = inl (omega arith, omega arith)
  rule_number Line = inl (omega arith, omega arith)
  rule_number Block = inl (omega arith, omega arith)

  rule_numbers : Numbers RuleNumber (rule_stages d p c)
  rule_numbers = each_rule d p c (λ (s : Stage). RuleNumber s.number) rule_number

  in_order : InTurn (turn_in order) 0 (rule_stages d p c)
  in_order =
      (omega arith, (omega arith, (omega arith, (omega arith, (omega arith, (omega arith, (omega arith, (omega arith, (omega arith, tt)))))))))

  module _ (rule : Rule) (row col : ℕ) where
    -- a stage holds whose turn comes before the rule's
    abbrev Earlier : Stage → Type 0
    Earlier t = turn_in order t.number < turn rule → Holds t

    -- a rule names a cell by its row and its column
    at_its_place : BrokenAt (stage_of rule) (number rule) (place row col) → Breaks (stage_of rule) row col
    at_its_place = broken_here (stage_of rule) (λ q. q.first) (λ q. q.second) (λ z i. refl) (λ z i. refl)

    -- a fault with a rule's number: the rule is broken there first, and those whose turn comes before hold
    rule_broken : Means (rule_stages d p c) (Err (number rule, place row col))
        ↔ (Breaks (stage_of rule) row col × ((r : Rule) → turn r < turn rule → Holds (stage_of r)))
    rule_broken =
        let a = in_turn_broken (turn_in order) 0 (rule_stages d p c) in_order (stage_of rule) (listed d p c rule) (place row col) in (
          λ m. let b = a.0 m in (at_its_place b.0, λ r. each_in Earlier (rule_stages d p c) b.1 (listed d p c r)),
          λ h. a.1 (record { row = row; col = col; number = refl; named = refl; breaks = h.0 }, each_rule d p c Earlier h.1),
        )

-- ==== the verdict

module _ (day clearing : List ℕ) (room : ℕ) where
  abbrev ruled : List Stage
  ruled = rule_stages (day_of day) (prices_of day clearing) (choice_of day clearing)

  abbrev after_files : List Stage
  after_files = ruled ++ (room_stage day room ∷ [])

  -- the room's number is 18, and it is refused where it is shorter than the statement
  room_number : (k : ℕ) (p : Place) → Means (room_stage day room ∷ []) (Err (k, p)) → 18 ≡ k
  room_number k p (inl b) = b.number
  room_number k p (inr m) = absurd m.1

  room_lacks : (k : ℕ) (p : Place) → Means (room_stage day room ∷ []) (Err (k, p)) → room < statement_length_of day
  room_lacks k p (inl b) = leb-false (statement_length_of day) room b.breaks.fails
  room_lacks k p (inr m) = absurd m.1

  room_broken : room < statement_length_of day → Means (room_stage day room ∷ []) (Err (18, place 0 0))
  room_broken l = inl (record {
    row = 0;
    col = 0;
    number = refl;
    named = refl;
    breaks = record {
      row = omega arith;
      col = omega arith;
      fails = lt-leb (statement_length_of day) room l;
      above = λ y j m _. absurd (omega (arith, m));
      left = λ j m. absurd (omega (arith, m));
    };
  })

  -- what comes after the files has numbers from 11 on
  after_numbers : Numbers AfterNumber after_files
  after_numbers =
      each-++ (λ (s : Stage). AfterNumber s.number) ruled (room_stage day room ∷ [])
      (each_so (λ (s : Stage). RuleNumber s.number) (λ (s : Stage). AfterNumber s.number) ruled (λ s h. rule_after {k = s.number} h)
      (rule_numbers (day_of day) (prices_of day clearing) (choice_of day clearing)))
      (inl (omega arith, omega arith), tt)

  broken_number : (k : ℕ) (p : Place) → Means (stages day clearing room) (Err (k, p)) → FromTo 1 8 k ⊎ AfterNumber k
  broken_number k p m =
      ⊎_elim
      (λ b. inl (numbered (FromTo 1 8) (file_stages day clearing) (file_numbers day clearing) k p b))
      (λ b. inr (numbered AfterNumber after_files after_numbers k p b.1))
      ((broken-++ (file_stages day clearing) after_files k p).0 m)

  -- A refusal has a number from 1 to 8, for the files, or from 11 to 18, or 20 or 21, for the rules and the room.
  pub refusal_number : (k : ℕ) (p : Place) → verdict day clearing room ≡ Err (k, p) →
      ((1 ≤ k) × (k ≤ 8)) ⊎ (((11 ≤ k) × (k ≤ 18)) ⊎ ((20 ≤ k) × (k ≤ 21)))
  refusal_number k p e = broken_number k p ((refused_is_broken day clearing room k p).0 e)

  -- The number 0 says that the files are accepted, with their totals.
  pub zero_is_accepted : number_of (verdict day clearing room) ≡ 0 → verdict day clearing room ≡ Ok (totals_of day clearing)
  zero_is_accepted = by (first_fault (stages day clearing room)) refl
    where
      by : (f : Fault) → first_fault (stages day clearing room) ≡ f → number_of (answer (Ok (totals_of day clearing)) Err f) ≡ 0 →
          answer (Ok (totals_of day clearing)) Err f ≡ Ok (totals_of day clearing)
      by (Ok _) e z = refl
      by (Err (k, p)) e z =
          let n = broken_number k p ((means (stages day clearing room) (Err (k, p))).0 e) in
          absurd (⊎_elim (λ l. omega (arith, l.0, z)) (λ a. let l = after_beyond a in omega (arith, l, z)) n)

  -- a number beyond 8: both files read without fault, and the fault comes after them
  past_files : (k : ℕ) (p : Place) → 8 < k →
      (verdict day clearing room ≡ Err (k, p)) ↔ ((GoodDay day × GoodClearing (counts day) clearing) × Means after_files (Err (k, p)))
  past_files k p l =
      Iff.trans (refused_is_broken day clearing room k p)
      (Iff.trans (in_second (file_stages day clearing) after_files k p (FromTo 1 8) (λ h. omega (arith, l, h.1)) (file_numbers day clearing))
      (Iff.and (files_clean day clearing) Iff.rfl))

  -- one up to 8: the fault is in the files
  in_files : (k : ℕ) (p : Place) → k ≤ 8 → (verdict day clearing room ≡ Err (k, p)) ↔ Means (file_stages day clearing) (Err (k, p))
  in_files k p l =
      Iff.trans (refused_is_broken day clearing room k p)
      (in_first (file_stages day clearing) after_files k p AfterNumber (λ a. let b = after_beyond a in omega (arith, l, b)) after_numbers)

  -- A refusal with the number 3: the place names the first field of the day file that fails its test.
  pub refused_by_day_field : (section row field : ℕ) →
      (verdict day clearing room ≡ Err (3, field_place section row field)) ↔ DayField day section row field
  refused_by_day_field section row field =
      let p = field_place section row field in
      let c = clearing_stages (counts day) clearing in
      Iff.trans (in_files 3 p (omega arith))
      (Iff.trans (in_first (day_stages day) c 3 p (FromTo 5 8) (λ h. omega (arith, h.0)) (clearing_numbers_lem (counts day) clearing))
      (day_field day section row field))

  -- One with the number 7: the day file reads without fault, and the place names the first field of the clearing file that fails its test.
  pub refused_by_clearing_field : (section row field : ℕ) →
      (verdict day clearing room ≡ Err (7, field_place section row field)) ↔ (GoodDay day × ClearingField (counts day) clearing section row field)
  refused_by_clearing_field section row field =
      let p = field_place section row field in
      let c = clearing_stages (counts day) clearing in
      Iff.trans (in_files 7 p (omega arith))
      (Iff.trans (in_second (day_stages day) c 7 p (FromTo 1 4) (λ h. omega (arith, h.1)) (day_numbers_lem day))
      (Iff.and (day_clean day) (clearing_field (counts day) clearing section row field)))

  -- Every other refusal has 0 for the field.
  pub field_only : (k : ℕ) (p : Place) → verdict day clearing room ≡ Err (k, p) → ¬ (k ≡ 3) → ¬ (k ≡ 7) → p.third ≡ 0
  field_only k p e =
      placed FieldOnly (stages day clearing room)
      (each-++ FieldOnlyOf (file_stages day clearing) after_files
      (each-++ FieldOnlyOf (day_stages day) (clearing_stages (counts day) clearing) (day_places day) (clearing_places (counts day) clearing))
      (each-++ FieldOnlyOf ruled (room_stage day room ∷ [])
      (each_rule (day_of day) (prices_of day clearing) (choice_of day clearing) FieldOnlyOf (λ r z i _ _. refl))
      (λ z i _ _. refl, tt)))
      k p ((refused_is_broken day clearing room k p).0 e)

  -- A refusal with a rule's number and a place: the files read, that rule is the first that is broken, and first there.
  pub refused_by_rule : (rule : Rule) (row col : ℕ) →
      (verdict day clearing room ≡ Err (number rule, place row col)) ↔ FirstBreach day clearing rule row col
  refused_by_rule rule row col =
      let d = day_of day in
      let p = prices_of day clearing in
      let c = choice_of day clearing in
      let n = rule_number d p c rule in
      let past = past_files (number rule) (place row col) (after_beyond (rule_after n)) in
      let split = broken-++ ruled (room_stage day room ∷ []) (number rule) (place row col) in
      let broken = rule_broken d p c rule row col in (
        λ e.
            let m = past.0 e in
            let h = broken.0 (⊎_elim
            (λ b. b)
            (λ b. absurd (not_the_room n (room_number (number rule) (place row col) b.1)))
            (split.0 m.1)) in
            record {
              day_reads = m.0.0;
              clearing_reads = m.0.1;
              earlier = λ r l. (rule_holds d p c r).0 (h.1 r l);
              row_is = h.0.row;
              col_is = h.0.col;
              broken = (breach d p c rule row col).0 h.0.fails;
              above = λ i j l k. (test_is d p c rule i j).0 (h.0.above i j l k);
              left = λ j l. (test_is d p c rule row j).0 (h.0.left j l);
            },
        λ f. past.1 (
          (f.day_reads, f.clearing_reads),
          split.1 (inl (broken.1 (
            record {
              row = f.row_is;
              col = f.col_is;
              fails = (breach d p c rule row col).1 f.broken;
              above = λ i j l k. (test_is d p c rule i j).1 (f.above i j l k);
              left = λ j l. (test_is d p c rule row j).1 (f.left j l);
            },
            λ r l. (rule_holds d p c r).1 (f.earlier r l),
          ))),
        ),
      )

  -- A refusal with the number 18: the files read, every rule holds, and the room is shorter than the statement.
  pub too_short : (p : Place) → verdict day clearing room ≡ Err (18, p) → TooShort day clearing room
  too_short p e =
      let m = (past_files 18 p (omega arith)).0 e in
      let numbers = rule_numbers (day_of day) (prices_of day clearing) (choice_of day clearing) in
      let h : Means ruled clean × Means (room_stage day room ∷ []) (Err (18, p)) = ⊎_elim
      (λ b. absurd (not_the_room (numbered RuleNumber ruled numbers 18 p b) refl))
      (λ b. b)
      ((broken-++ ruled (room_stage day room ∷ []) 18 p).0 m.1) in
      record {
        day_reads = m.0.0;
        clearing_reads = m.0.1;
        rules_hold = (lawful_is (day_of day) (prices_of day clearing) (choice_of day clearing)).0 h.0;
        room_lacks = room_lacks 18 p h.1;
      }

  pub refused_by_room : (verdict day clearing room ≡ Err (18, place 0 0)) ↔ TooShort day clearing room
  refused_by_room = (
    too_short (place 0 0),
    λ s.
        let lawful = (lawful_is (day_of day) (prices_of day clearing) (choice_of day clearing)).1 s.rules_hold in
        let broken = (broken-++ ruled (room_stage day room ∷ []) 18 (place 0 0)).1 (inr (lawful, room_broken s.room_lacks)) in
        (past_files 18 (place 0 0) (omega arith)).1 ((s.day_reads, s.clearing_reads), broken),
  )
