-- Laws of lists of stages: which numbers a list refuses with, one list after another, and lists whose stages have their turns in order.
-- Assumes nothing.
use Rattle.std.specs.Prelude.{ℕ, suc, ◌<◌, ◌≤◌, ◌≡◌, cond, ◌↔◌, ◌⊎◌, List, [], ◌∷◌, ◌++◌, eqb}
use Rattle.std.proofs.Common.{arith, ap, subst, inl, inr, ⊎_elim}
use Rattle.stages.specs.Stage.{Stage, Holds, BrokenAt, Means}
use Rattle.stages.specs.declared.Place.{Place}
use Rattle.std.specs.Prelude.{Err}
use Rattle.stages.specs.Stage.{clean}

-- ---- what is meant

-- each stage of a list has a property
abbrev pub Each : (Stage → Type 0) → List Stage → Type 0
Each P [] = Unit
Each P (s ∷ ss) = P s × Each P ss

-- each stage's number has
abbrev pub Numbers : (ℕ → Type 0) → List Stage → Type 0
Numbers P = Each (λ (s : Stage). P s.number)

-- a stage is one of a list
abbrev pub In : Stage → List Stage → Type 0
In s [] = ⊥
In s (t ∷ ss) = (t ≡ s) ⊎ In s ss

-- the turn of a number in a list of numbers: how many stand before it
abbrev pub turn_in : List ℕ → ℕ → ℕ
turn_in [] k = 0
turn_in (n ∷ ns) k = cond (eqb n k) 0 (suc (turn_in ns k))

-- by a turn of each number: the turns are at least k, and each is above the one before it
abbrev pub InTurn : (ℕ → ℕ) → ℕ → List Stage → Type 0
InTurn turn k [] = Unit
InTurn turn k (s ∷ ss) = (k ≤ turn s.number) × InTurn turn (suc (turn s.number)) ss

-- ---- a fault of two lists is one of the first, or the first is clean and it is one of the second

-- the same of the first stage's own fault A, that it holds H, and the faults behind it
behind : {A H M B C D : Type 0} → M ↔ (B ⊎ (C × D)) → (A ⊎ (H × M)) ↔ ((A ⊎ (H × B)) ⊎ ((H × C) × D))
behind {A} {H} {M} {B} {C} {D} r = (apart, together)
  where
    split : H → B ⊎ (C × D) → (A ⊎ (H × B)) ⊎ ((H × C) × D)
    split h (inl b) = inl (inr (h, b))
    split h (inr d) = inr ((h, d.0), d.1)

    apart : A ⊎ (H × M) → (A ⊎ (H × B)) ⊎ ((H × C) × D)
    apart (inl a) = inl (inl a)
    apart (inr m) = split m.0 (r.0 m.1)

    together : (A ⊎ (H × B)) ⊎ ((H × C) × D) → A ⊎ (H × M)
    together (inl (inl a)) = inl a
    together (inl (inr b)) = inr (b.0, r.1 (inl b.1))
    together (inr d) = inr (d.0.0, r.1 (inr (d.0.1, d.1)))

pub broken-++ : (xs ys : List Stage) (k : ℕ) (p : Place) →
    Means (xs ++ ys) (Err (k, p)) ↔ (Means xs (Err (k, p)) ⊎ (Means xs clean × Means ys (Err (k, p))))
broken-++ [] ys k p = (λ m. inr (tt, m), λ m. ⊎_elim (λ b. absurd b) (λ d. d.1) m)
broken-++ (s ∷ xs) ys k p = behind (broken-++ xs ys k p)

-- ---- each stage of a list

pub each_in : (P : Stage → Type 0) (ss : List Stage) {s : Stage} → Each P ss → In s ss → P s
each_in P [] h i = absurd i
each_in P (t ∷ ss) h (inl e) = subst P e h.0
each_in P (t ∷ ss) h (inr i) = each_in P ss h.1 i

pub each-++ : (P : Stage → Type 0) (xs ys : List Stage) → Each P xs → Each P ys → Each P (xs ++ ys)
each-++ P [] ys g h = h
each-++ P (s ∷ xs) ys g h = (g.0, each-++ P xs ys g.1 h)

pub each_so : (P Q : Stage → Type 0) (ss : List Stage) → ((s : Stage) → P s → Q s) → Each P ss → Each Q ss
each_so P Q [] f h = tt
each_so P Q (s ∷ ss) f h = (f s h.0, each_so P Q ss f h.1)

-- ---- a list refuses with the number of one of its stages

pub numbered : (P : ℕ → Type 0) (ss : List Stage) → Numbers P ss → (k : ℕ) (p : Place) → Means ss (Err (k, p)) → P k
numbered P [] h k p m = absurd m
numbered P (s ∷ ss) h k p (inl b) = subst P b.number h.0
numbered P (s ∷ ss) h k p (inr m) = numbered P ss h.1 k p m.1

-- and with one of its places
pub placed : (P : ℕ → Place → Type 0) (ss : List Stage) → Each (λ (s : Stage). (z i : ℕ) → P s.number (s.named z i)) ss →
    (k : ℕ) (p : Place) → Means ss (Err (k, p)) → P k p
placed P [] h k p m = absurd m
placed P (s ∷ ss) h k p (inl b) = subst (P k) b.named (subst (λ (n : ℕ). P n (s.named b.row b.col)) b.number (h.0 b.row b.col))
placed P (s ∷ ss) h k p (inr m) = placed P ss h.1 k p m.1

-- of two lists, a fault with a number that one does not have is the other's
module _ (xs ys : List Stage) (k : ℕ) (p : Place) (P : ℕ → Type 0) (other : ¬ P k) where
  pub in_first : Numbers P ys → Means (xs ++ ys) (Err (k, p)) ↔ Means xs (Err (k, p))
  in_first n =
      let b = broken-++ xs ys k p in
      (λ m. ⊎_elim (λ x. x) (λ y. absurd (other (numbered P ys n k p y.1))) (b.0 m), λ m. b.1 (inl m))

  pub in_second : Numbers P xs → Means (xs ++ ys) (Err (k, p)) ↔ (Means xs clean × Means ys (Err (k, p)))
  in_second n =
      let b = broken-++ xs ys k p in
      (λ m. ⊎_elim (λ x. absurd (other (numbered P xs n k p x))) (λ y. y) (b.0 m), λ m. b.1 (inr m))

-- ---- turns in order

module _ (turn : ℕ → ℕ) where
  turns_from : (k : ℕ) (ss : List Stage) → InTurn turn k ss → Numbers (λ (n : ℕ). k ≤ turn n) ss
  turns_from k [] a = tt
  turns_from k (s ∷ ss) a = (a.0, each_so _ _ ss (λ t h. omega (arith, a.0, h)) (turns_from (suc (turn s.number)) ss a.1))

  -- the stages whose turn comes before that of s hold
  abbrev pub EarlierHold : Stage → List Stage → Type 0
  EarlierHold s = Each (λ (t : Stage). turn t.number < turn s.number → Holds t)

  module _ (k : ℕ) (s : Stage) (ss : List Stage) (a : InTurn turn k (s ∷ ss)) where
    above : Numbers (λ (n : ℕ). turn s.number < turn n) ss
    above = turns_from (suc (turn s.number)) ss a.1

    -- a refusal with the first stage's number is its own, and no stage has its turn before it
    first_broken : (p : Place) → Means (s ∷ ss) (Err (s.number, p)) ↔ (BrokenAt s s.number p × EarlierHold s (s ∷ ss))
    first_broken p = (to, λ m. inl m.0)
      where
        to : Means (s ∷ ss) (Err (s.number, p)) → BrokenAt s s.number p × EarlierHold s (s ∷ ss)
        to (inl b) = (b, (λ l. absurd (omega (arith, l)), each_so _ _ ss (λ t h l. absurd (omega (arith, h, l))) above))
        to (inr m) = let l = numbered (λ (n : ℕ). turn s.number < turn n) ss above s.number p m.1 in absurd (omega (arith, l))

    -- one with a later stage's number is not the first stage's, which holds
    later_broken : (t : Stage) → In t ss → (p : Place) → Means ss (Err (t.number, p)) ↔ (BrokenAt t t.number p × EarlierHold t ss) →
        Means (s ∷ ss) (Err (t.number, p)) ↔ (BrokenAt t t.number p × EarlierHold t (s ∷ ss))
    later_broken t i p rest = (to, λ m. inr (m.1.0 earlier, rest.1 (m.0, m.1.1)))
      where
        earlier : turn s.number < turn t.number
        earlier = each_in (λ (u : Stage). turn s.number < turn u.number) ss above i

        to : Means (s ∷ ss) (Err (t.number, p)) → BrokenAt t t.number p × EarlierHold t (s ∷ ss)
        to (inl b) = absurd (omega (arith, earlier, ap turn b.number))
        to (inr m) = let r = rest.0 m.1 in (r.0, (λ _. m.0, r.1))

  -- A refusal with the number of a stage of the list: that stage is broken there, and the stages whose turn comes before it hold.
  pub in_turn_broken : (k : ℕ) (ss : List Stage) → InTurn turn k ss → (s : Stage) → In s ss → (p : Place) →
      Means ss (Err (s.number, p)) ↔ (BrokenAt s s.number p × EarlierHold s ss)
  in_turn_broken k [] a s i p = absurd i
  in_turn_broken k (t ∷ ss) a s (inl e) p =
      subst (λ (u : Stage). Means (t ∷ ss) (Err (u.number, p)) ↔ (BrokenAt u u.number p × EarlierHold u (t ∷ ss))) e (first_broken k t ss a p)
  in_turn_broken k (t ∷ ss) a s (inr i) p = later_broken k t ss a s i p (in_turn_broken (suc (turn t.number)) ss a.1 s i p)
