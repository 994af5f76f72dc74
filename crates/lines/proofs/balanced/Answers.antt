-- `lines::balanced` meets its contract: where the first n of both are one list, so is each of them. Assumes nothing.
use Rattle.std.proofs.Common.{sym, ap, ◌∙◌, pos, get_or, List, ℤ}
use Rattle.std.proofs.lemmas.Bool.Decides.{Decides-int_eq}
use Rattle.std.proofs.lemmas.Slice.Eq.{slice_eq-Decides}
use Rattle.std.proofs.lemmas.List.{get_or-take}
use Rattle.lines.proofs.balanced.Goals as goal

pub returns : goal.returns
returns c e k l =
    let same = (slice_eq-Decides Decides-int_eq _ _ c.eq.result c.eq.ensures).0 e in
    sym (get_or-take c.args.n c.args.nets.now k (pos 0) l) ∙ ap (λ (xs : List ℤ). get_or xs k (pos 0)) same
    ∙ get_or-take c.args.n c.args.flows.now k (pos 0) l
