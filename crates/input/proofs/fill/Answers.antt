use Rattle.std.proofs.Common.{rules, subst, refl, ◌-◌, length}
use Rattle.std.proofs.KnownBytes.{Consumes-trans}
use Rattle.std.proofs.lemmas.Slice.{take-put_mid}
use Rattle.std.specs.Io.KnownBytes.{Consumes}
use Rattle.input.proofs.Filled.{filled_then}
use Rattle.input.proofs.fill.Goals as goal

pub loop-held-preserved : goal.loop-held-preserved
loop-held-preserved g c =
    let l = c.loop-held in
    let rest = c.read.new.buf in
    let joined = filled_then l.held c.in-Ok.more l.buf rest _ (take-put_mid l.held (length l.buf - l.held) l.buf rest _ refl l.invariant.0) l.invariant.0 (search rules) in
    (search rules, subst (Consumes _ _) joined (Consumes-trans _ _ _ _ _ l.invariant.1 c.in-Ok.ensures.bytes.0))
