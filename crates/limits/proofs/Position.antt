-- The first field that fails its test is the first place in the list of tests at which there is no `true`. Assumes nothing.
use Rattle.std.specs.Prelude.{ℕ, ◌<◌, ◌≡◌, Bool, false, not, List, get_or, length, position, Option, Some, None}
use Rattle.std.proofs.Common.{arith, rules, ap, ◌∙◌, sym}
use Rattle.std.proofs.lemmas.List.Sums.{position_or_len_is}
use Rattle.stages.specs.First.{first_bad, Says}
use Rattle.stages.proofs.FirstLaws.{says}
use Rattle.limits.specs.Fields.{only, only_at}

pub position_is : (tests : List Bool) → position not tests ≡ first_bad (length tests) (only tests)
position_is tests = by (first_bad (length tests) (only tests)) (says (length tests) (only tests))
  where
    at : {f : ℕ} {b : Bool} → f < length tests → only tests f ≡ b → not (get_or tests f false) ≡ not b
    at l e = ap not (sym (only_at tests l) ∙ e)

    by : (f : Option ℕ) → Says (length tests) (only tests) f → position not tests ≡ f
    by (Some k) s =
        let first = position_or_len_is not tests k false (omega arith) (λ j l. at (omega arith) (s.1.1 j l)) (λ l. at l s.1.0) in
        rw first (search rules)
    by None s =
        let first = position_or_len_is not tests (length tests) false (omega arith) (λ j l. at l (s j l)) (λ l. absurd (omega (arith, l))) in
        rw first (search rules)
