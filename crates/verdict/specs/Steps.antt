-- The verdict from the rules on, and from the room on, as the functions hand on, and the laws by which they do. Assumes nothing.
use Rattle.std.specs.Prelude.{ℕ, ◌≤◌, ◌<◌, ◌≡◌, List, [], ◌∷◌, ◌++◌, length, take, drop}
use Rattle.std.proofs.Common.{sym, ap, subst, ◌∙◌, length-take-le, le-leb}
use Rattle.std.proofs.lemmas.Bool.{lt-leb}
use Rattle.stages.specs.Stage.{Stage, place, first_fault}
use Rattle.stages.proofs.StageLaws.{fault-++, means}
use Rattle.stages.specs.declared.Place.{Place}
use Rattle.wire.specs.Bytes.{put}
use Rattle.market.specs.Rules.{rule_stages, Lawful}
use Rattle.market.proofs.RuleLaws.{lawful_is}
use Rattle.market.specs.declared.Totals.{Totals}
use Rattle.day.specs.declared.Counts.{Counts}
use Rattle.day.specs.Day.{counts}
use Rattle.clearing.specs.Clearing.{file_stages, files}
use Rattle.clearing.specs.Good.{GoodClearing, files_clean, good_files}
use Rattle.book.specs.Book as book
use Rattle.book.specs.Of.{OfFiles, of_files}
use Rattle.totals.specs.Sums as sums
use Rattle.rules.specs.Judge as rules
use Rattle.statement.specs.Statement.{statement_length}
use Rattle.statement.specs.Laws.{fills}
use Rattle.statement.specs.Of.{net_count, net_row, statement_with}
use Rattle.verdict.specs.Verdict.{day_of, prices_of, choice_of, totals_of, statement_of, statement_length_of, room_stage, verdict}
use Rattle.std.specs.Prelude.{Ok, Err}
use Rattle.stages.specs.Stage.{Fault, clean, judged}
use Rattle.verdict.specs.Verdict.{Outcome}

-- ---- the verdict from a stage on

module _ (day clearing : List ℕ) where
  abbrev pub rules_of : List Stage
  rules_of = rule_stages (day_of day) (prices_of day clearing) (choice_of day clearing)

  abbrev pub outcome_of : List Stage → Outcome
  outcome_of ss = judged (totals_of day clearing) ss

  abbrev pub from_room : ℕ → Outcome
  from_room room = outcome_of (room_stage day room ∷ [])

  abbrev pub from_rules : ℕ → Outcome
  from_rules room = outcome_of (rules_of ++ (room_stage day room ∷ []))

  -- where the first stages have a fault, that is the outcome; where they have none, the others decide
  stops : (xs ys : List Stage) {k : ℕ} {p : Place} → Err (k, p) ≡ first_fault xs → Err (k, p) ≡ outcome_of (xs ++ ys)
  stops xs ys e = rw (fault-++ xs ys, ← e)

  goes_on : (xs ys : List Stage) → clean ≡ first_fault xs → outcome_of ys ≡ outcome_of (xs ++ ys)
  goes_on xs ys e = rw (fault-++ xs ys, ← e)

  module _ (room : ℕ) where
    pub at_the_files : {k : ℕ} {p : Place} → Err (k, p) ≡ first_fault (file_stages day clearing) → Err (k, p) ≡ verdict day clearing room
    at_the_files = stops (file_stages day clearing) (rules_of ++ (room_stage day room ∷ []))

    pub past_the_files : clean ≡ first_fault (file_stages day clearing) → from_rules room ≡ verdict day clearing room
    past_the_files = goes_on (file_stages day clearing) (rules_of ++ (room_stage day room ∷ []))

    pub at_the_rules : {k : ℕ} {p : Place} → Err (k, p) ≡ first_fault rules_of → Err (k, p) ≡ from_rules room
    at_the_rules = stops rules_of (room_stage day room ∷ [])

    pub past_the_rules : clean ≡ first_fault rules_of → from_room room ≡ from_rules room
    past_the_rules = goes_on rules_of (room_stage day room ∷ [])

-- ---- files that read without fault, with their counts in hand, and that keep the rules

pub record Released (day clearing : List ℕ) (c : Counts) : Type 0 where
  pub of_files : OfFiles day clearing c
  pub lawful : Lawful (book.day_of c day) (book.prices_of c clearing) (book.choice_of c clearing)

pub good_of : (day clearing : List ℕ) {c : Counts} → Ok c ≡ files day clearing → OfFiles day clearing c
good_of day clearing {c} e =
    let g = good_files day clearing c (sym e) in
    subst (OfFiles day clearing) g.0 (of_files g.1.0 g.1.1)

module _ {day clearing : List ℕ} {c : Counts} (o : OfFiles day clearing c) where
  -- what holds by the file's own counts holds by those in hand
  in_hand : (P : Counts → Type 0) → P (counts day) → P c
  in_hand P = subst P o.of_day.counted

  own_clearing : GoodClearing (counts day) clearing
  own_clearing = subst (λ (k : Counts). GoodClearing k clearing) (sym o.of_day.counted) o.good_clearing

  pub rules_same : {f : Fault} → f ≡ first_fault (rules.stages c day clearing) → f ≡ first_fault (rules_of day clearing)
  rules_same {f} = in_hand (λ (k : Counts). f ≡ first_fault (rules.stages k day clearing) → f ≡ first_fault (rules_of day clearing)) (λ e. e)

  pub released : clean ≡ first_fault (rules.stages c day clearing) → Released day clearing c
  released e = record {
    of_files = o;
    lawful = (lawful_is (book.day_of c day) (book.prices_of c clearing) (book.choice_of c clearing)).0
        ((means (rules.stages c day clearing) clean).0 (sym e));
  }

  -- where the rules hold, the room decides
  pub past_all : Lawful (book.day_of c day) (book.prices_of c clearing) (book.choice_of c clearing) → (room : ℕ) →
      from_room day clearing room ≡ verdict day clearing room
  past_all lawful room =
      past_the_rules day clearing room
      (rules_same (sym ((means (rules.stages c day clearing) clean).1
      ((lawful_is (book.day_of c day) (book.prices_of c clearing) (book.choice_of c clearing)).1 lawful))))
      ∙ past_the_files day clearing room (sym ((means (file_stages day clearing) clean).1 ((files_clean day clearing).1 (o.good_day, own_clearing))))

  -- the room, and what is left in it
  pub too_short : (room : ℕ) → room < statement_length (net_count c) → Err (18, place 0 0) ≡ from_room day clearing room
  too_short room =
      in_hand (λ (k : Counts). room < statement_length (net_count k) → Err (18, place 0 0) ≡ from_room day clearing room)
      (λ l. rw (lt-leb (statement_length_of day) room l))

  pub long_enough : (room : ℕ) → statement_length (net_count c) ≤ room → {t : Totals} → t ≡ sums.totals c day clearing →
      Ok t ≡ from_room day clearing room
  long_enough room l {t} e =
      in_hand (λ (k : Counts). statement_length (net_count k) ≤ room → t ≡ sums.totals k day clearing → Ok t ≡ from_room day clearing room)
      (λ l e. rw (le-leb (statement_length_of day) room l) (ap Ok e)) l e

  -- the statement fills the part that is lent for it, and the bytes behind the part are as they were
  pub left_in : (room part : List ℕ) (n : ℕ) {t : Totals} → n ≡ statement_length (net_count c) → n ≤ length room → t ≡ sums.totals c day clearing →
      part ≡ put (take n room) 0 (statement_with c day clearing t) →
      part ++ drop n room ≡ statement_of day clearing ++ drop (statement_length_of day) room
  left_in room part n {t} m l e q =
      in_hand (λ (k : Counts). n ≡ statement_length (net_count k) → t ≡ sums.totals k day clearing →
      part ≡ statement_with k day clearing t →
      part ++ drop n room ≡ statement_of day clearing ++ drop (statement_length_of day) room)
      (λ m e q. rw (q, e, m)) m e
      (q ∙ fills t (net_row c day clearing) (net_count c) (take n room) (length-take-le n room l ∙ m))
