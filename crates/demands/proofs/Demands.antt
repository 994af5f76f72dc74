-- The demands on the checker, as theorems about `check(day, clearing, room)`. Each is about any three byte strings; none assumes anything
-- but what the contract of `check` says, which is the record `Checked` (crate verdict, specs/Verdict), and, in demand 3, that the other
-- choice is allowed (crate market, specs/Other). That `check` has no `requires` and always ends is what the gate shows of its code.
use Rattle.std.specs.Prelude.{ℕ, ◌≤◌, ◌≡◌, refl, ◌↔◌, ◌⊎◌, List, ◌++◌, ◌+ℤ◌, length, drop}
use Rattle.std.proofs.Common.{arith, sym, ap, subst, ◌∙◌}
use Rattle.std.proofs.Math.IntN.{pos}
use Rattle.whole.specs.Whole.{◌≼◌}
use Rattle.stages.specs.Stage.{Means, place, field_place}
use Rattle.stages.specs.declared.Place.{Place}
use Rattle.market.specs.Market.{Choice, order_value, totals}
use Rattle.market.specs.Rules.{Lawful, number}
use Rattle.market.specs.Other.{Allowed, SameBlocks, lawful_allowed}
use Rattle.market.specs.Range.{Placed}
use Rattle.market.proofs.Welfare as welfare
use Rattle.market.proofs.RuleLaws.{rent_nonneg, shortfall_nonneg}
use Rattle.market.specs.declared.Rule.{Rule}
use Rattle.market.specs.declared.Totals.{Totals}
use Rattle.day.specs.Day.{counts}
use Rattle.day.specs.Good.{GoodDay, in_limits, prices_most}
use Rattle.day.specs.Fields.{DayField}
use Rattle.clearing.specs.Fields.{ClearingField}
use Rattle.book.specs.Of.{OfFiles, of_files}
use Rattle.book.specs.Ranges.{placed, ranged}
use Rattle.verdict.specs.Verdict.{day_of, prices_of, choice_of, totals_of, statement_of, statement_length_of}
use Rattle.verdict.specs.Verdict.{stages, leaves, Checked, number_of, place_of, given_totals, zeros}
use Rattle.demands.specs.Sentences.{Passes, FirstBreach, TooShort, Stated}
use Rattle.demands.proofs.Refusals as refusals
use Rattle.demands.proofs.Laws.{passes_exactly, refused_is_broken, behind_stays, length_stays}
use Rattle.demands.proofs.Laws.{six_stated, value_stated, buyers_stated, sellers_stated, rent_stated, traded_stated, shortfall_stated}
use Rattle.demands.proofs.Laws.{count_stated, net_stated}
use Rattle.std.specs.Prelude.{Ok, Err}
use Rattle.verdict.specs.Verdict.{Outcome}

-- what is shown of the verdict is shown of the outcome
said_of : {x y z : Outcome} {A : Type 0} → x ≡ y → (y ≡ z) ↔ A → (x ≡ z) ↔ A
said_of e h = (λ f. h.0 (sym e ∙ f), λ a. e ∙ h.1 a)

module _ {day clearing before : List ℕ} {outcome : Outcome} {after : List ℕ} (c : Checked day clearing before outcome after) where
  -- ==== Demand 1. Any two files. A refusal has a number and a place, gives zero totals and changes no byte of the room.

  pub refusal_changes_nothing : {k : ℕ} {p : Place} → outcome ≡ Err (k, p) → after ≡ before
  refusal_changes_nothing e = c.left ∙ ap (λ (o : Outcome). leaves day clearing o before) e

  pub refusal_gives_zeros : {k : ℕ} {p : Place} → outcome ≡ Err (k, p) → given_totals outcome ≡ zeros
  refusal_gives_zeros e = ap given_totals e

  -- its number is from 1 to 8, for the files, or from 11 to 18, or 20 or 21, for the rules and the room
  pub refusal_number : (k : ℕ) (p : Place) → outcome ≡ Err (k, p) → ((1 ≤ k) × (k ≤ 8)) ⊎ (((11 ≤ k) × (k ≤ 18)) ⊎ ((20 ≤ k) × (k ≤ 21)))
  refusal_number k p e = refusals.refusal_number day clearing (length before) k p (sym c.said ∙ e)

  -- its place names a field for the numbers 3 and 7 alone
  pub refusal_field : (k : ℕ) (p : Place) → outcome ≡ Err (k, p) → ¬ (k ≡ 3) → ¬ (k ≡ 7) → p.third ≡ 0
  refusal_field k p e = refusals.field_only day clearing (length before) k p (sym c.said ∙ e)

  -- the number 0 is given just for an acceptance
  pub zero_is_accepted : number_of outcome ≡ 0 → outcome ≡ Ok (totals_of day clearing)
  zero_is_accepted e = c.said ∙ refusals.zero_is_accepted day clearing (length before) (ap number_of (sym c.said) ∙ e)

  pub accepted_is_zero : {t : Totals} → outcome ≡ Ok t → (number_of outcome ≡ 0) × (place_of outcome ≡ place 0 0)
  accepted_is_zero e = (ap number_of e, ap place_of e)

  -- ==== Demand 2. Accepted exactly when every rule of the rule paper holds and the room is long enough; else the first broken rule at
  -- its first place. Totals and net positions are the defined ones.

  pub accepted_exactly : (t : Totals) → (outcome ≡ Ok t) ↔ (Passes day clearing (length before) × (totals_of day clearing ≡ t))
  accepted_exactly t = said_of c.said (passes_exactly day clearing (length before) t)

  -- `Means .. (Err (k, p))`: some stage has the number k and fails first at the place p, and all stages before it hold everywhere
  pub refused_exactly : (k : ℕ) (p : Place) → (outcome ≡ Err (k, p)) ↔ Means (stages day clearing (length before)) (Err (k, p))
  refused_exactly k p = said_of c.said (refused_is_broken day clearing (length before) k p)

  -- the same as sentences. By a rule: the files read, the rules whose turn comes before hold, this one is broken at this place and nowhere
  -- before
  pub refused_by_rule : (rule : Rule) (row col : ℕ) →
      (outcome ≡ Err (number rule, place row col)) ↔ FirstBreach day clearing rule row col
  refused_by_rule rule row col = said_of c.said (refusals.refused_by_rule day clearing (length before) rule row col)

  -- by a field of the day file: its test fails, and those of the fields before it in its row, of the rows before it and of the sections
  -- before its own hold
  pub refused_by_day_field : (section row field : ℕ) → (outcome ≡ Err (3, field_place section row field)) ↔ DayField day section row field
  refused_by_day_field section row field = said_of c.said (refusals.refused_by_day_field day clearing (length before) section row field)

  -- by one of the clearing file, where the day file reads
  pub refused_by_clearing_field : (section row field : ℕ) →
      (outcome ≡ Err (7, field_place section row field)) ↔ (GoodDay day × ClearingField (counts day) clearing section row field)
  refused_by_clearing_field section row field =
      said_of c.said (refusals.refused_by_clearing_field day clearing (length before) section row field)

  -- by the room: the files read, every rule holds, and the room is shorter than the statement
  pub refused_by_room : (outcome ≡ Err (18, place 0 0)) ↔ TooShort day clearing (length before)
  refused_by_room = said_of c.said (refusals.refused_by_room day clearing (length before))

  -- an acceptance writes the statement at the front and leaves the bytes behind it
  pub acceptance_writes : {t : Totals} → outcome ≡ Ok t → after ≡ statement_of day clearing ++ drop (statement_length_of day) before
  acceptance_writes e = c.left ∙ ap (λ (o : Outcome). leaves day clearing o before) e

-- a call that accepts, with the totals t
module _ {day clearing before after : List ℕ} {t : Totals} (c : Checked day clearing before (Ok t) after) where
  passed : Passes day clearing (length before) × (totals_of day clearing ≡ t)
  passed = (accepted_exactly c t).0 refl

  both_read : OfFiles day clearing (counts day)
  both_read = of_files passed.0.day_reads passed.0.clearing_reads

  in_place : Placed (day_of day)
  in_place = placed both_read

  lawful : Lawful (day_of day) (prices_of day clearing) (choice_of day clearing)
  lawful = passed.0.rules_hold

  -- what holds of the defined totals holds of t
  of_t : (P : Totals → Type 0) → P (totals (day_of day) (prices_of day clearing) (choice_of day clearing)) → P t
  of_t P = subst P passed.1

  pub stated : Stated day clearing before t after
  stated =
      let rest = drop (statement_length_of day) before in
      subst (Stated day clearing before t) (sym (acceptance_writes c refl)) (record {
        totals_are = sym passed.1;
        six = six_stated both_read rest;
        value_at = value_stated both_read rest;
        buyers_at = buyers_stated both_read rest;
        sellers_at = sellers_stated both_read rest;
        rent_at = rent_stated both_read rest;
        traded_at = traded_stated both_read rest;
        shortfall_at = shortfall_stated both_read rest;
        count_at = count_stated both_read rest;
        net_at = net_stated both_read rest lawful;
        behind = behind_stays day clearing before passed.0.room_suffices;
        same_length = length_stays day clearing before passed.0.room_suffices;
      })

  -- the rent and the shortfall are never below zero
  pub rent_least : pos 0 ≼ t.rent
  unfolding totals
  rent_least = of_t (λ u. pos 0 ≼ u.rent) (rent_nonneg _ _ _ in_place lawful)

  pub shortfall_least : pos 0 ≼ t.shortfall
  unfolding totals
  shortfall_least = of_t (λ u. pos 0 ≼ u.shortfall) (shortfall_nonneg _ _ _)

  -- ==== Demand 3. No other choice for the same day that keeps quantities and capacities, takes blocks as allowed and balances every zone
  -- and period has an order value greater by more than the stated shortfall; with the same blocks, none greater. Buyer surplus, seller
  -- surplus and rent add up to the order value.

  pub no_better : (other : Choice) → Allowed (day_of day) other → order_value (day_of day) other ≼ t.value +ℤ t.shortfall
  unfolding totals
  no_better other allowed =
      of_t (λ u. order_value (day_of day) other ≼ u.value +ℤ u.shortfall) (welfare.no_better _ _ in_place _ lawful other allowed)

  pub no_better_with_same_blocks : (other : Choice) → Allowed (day_of day) other → SameBlocks (day_of day) (choice_of day clearing) other →
      order_value (day_of day) other ≼ t.value
  unfolding totals
  no_better_with_same_blocks other allowed same =
      of_t (λ u. order_value (day_of day) other ≼ u.value) (welfare.no_better_with_same_blocks _ _ in_place _ lawful other allowed same)

  pub parts_add_up : t.buyers +ℤ t.sellers +ℤ t.rent ≡ t.value
  unfolding totals
  parts_add_up =
      of_t (λ u. u.buyers +ℤ u.sellers +ℤ u.rent ≡ u.value) (welfare.adds_up _ (prices_of day clearing) in_place _ lawful.balance_rule)

  -- the accepted choice is itself allowed, and t's order value is its own
  pub itself_allowed : Allowed (day_of day) (choice_of day clearing) × (order_value (day_of day) (choice_of day clearing) ≡ t.value)
  unfolding totals
  itself_allowed = (lawful_allowed _ _ _ (ranged both_read) lawful, of_t (λ u. order_value (day_of day) (choice_of day clearing) ≡ u.value) refl)

-- ==== the longest statement, and one outcome for each input

pub longest_statement_lem : {day : List ℕ} → GoodDay day → statement_length_of day ≤ 852
longest_statement_lem g = omega (arith, prices_most (in_limits g))

-- a room as long as that is never too short
pub long_room : {day clearing before after : List ℕ} {outcome : Outcome} → Checked day clearing before outcome after → 852 ≤ length before →
    number_of outcome ≡ 18 → ⊥
long_room {outcome = Ok t} c l e = omega (arith, e)
long_room {day} {clearing} {before} {outcome = Err (k, p)} c l e =
    let short = refusals.too_short day clearing (length before) p (sym c.said ∙ ap (λ (n : ℕ). Err (n, p)) e) in
    omega (arith, l, short.room_lacks, longest_statement_lem short.day_reads)

-- two calls with the same files and the same room have the same outcome and leave the same room
pub one_outcome : {day clearing before : List ℕ} {o o' : Outcome} {a a' : List ℕ} →
    Checked day clearing before o a → Checked day clearing before o' a' → (o ≡ o') × (a ≡ a')
one_outcome {day} {clearing} {before} c d =
    let e = c.said ∙ sym d.said in
    (e, c.left ∙ ap (λ (o : Outcome). leaves day clearing o before) e ∙ sym d.left)
