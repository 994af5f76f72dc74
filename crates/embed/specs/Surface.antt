-- What each function for other languages gives. Assumes nothing.
use Rattle.std.specs.Prelude.{ℕ, List, [], ◌∷◌, eqb, ℤ, length}
use Rattle.stages.specs.Stage.{first_fault, answer}
use Rattle.stages.specs.declared.Place.{Place}
use Rattle.market.specs.declared.Totals.{Totals}
use Rattle.verdict.specs.Verdict.{verdict, leaves, number_of, place_of, given_totals}
use Rattle.lookup.specs.LookUp.{pick, look_up_stages, look_up, look_up_at}

-- ---- what is put in a lent buffer

abbrev pub three : ℕ → ℕ → ℕ → List ℕ
three a b c = a ∷ b ∷ c ∷ []

abbrev pub place_three : Place → List ℕ
place_three p = three p.first p.second p.third

abbrev pub six : Totals → List ℤ
six t = t.value ∷ t.buyers ∷ t.sellers ∷ t.rent ∷ t.traded ∷ t.shortfall ∷ []

-- a buffer of just n places is answered; for one of another length the other is given
abbrev pub for_length : {A B : Type 0} → ℕ → List A → B → B → B
for_length n out answered other = pick (eqb (length out) n) answered other

abbrev pub wrong_length : ℕ
wrong_length = 255

-- no statement is longer
abbrev pub longest_statement : ℕ
longest_statement = 852

-- ---- the check, in the lent room

module _ (day clearing room place : List ℕ) where
  abbrev pub check_number : ℕ
  check_number = for_length 3 place (number_of (verdict day clearing (length room))) wrong_length

  abbrev pub check_place : List ℕ
  check_place = for_length 3 place (place_three (place_of (verdict day clearing (length room)))) place

  abbrev pub check_room : List ℕ
  check_room = for_length 3 place (leaves day clearing (verdict day clearing (length room)) room) room

-- ---- the totals

module _ (day clearing : List ℕ) (totals : List ℤ) where
  abbrev pub totals_number : ℕ
  totals_number = for_length 6 totals (number_of (verdict day clearing longest_statement)) wrong_length

  abbrev pub totals_out : List ℤ
  totals_out = for_length 6 totals (six (given_totals (verdict day clearing longest_statement))) totals

-- ---- the look-up

module _ (day : List ℕ) (section : ℕ) (found : List ℕ) where
  abbrev pub look_up_number : ℕ
  look_up_number = for_length 3 found (answer 0 (λ r. r.0) (first_fault (look_up_stages section day))) wrong_length

  abbrev pub look_up_found : List ℕ
  look_up_found =
      for_length 3 found
      (answer (three (look_up_at section day) (length (look_up section day)) 0) (λ r. place_three r.1) (first_fault (look_up_stages section day)))
      found
