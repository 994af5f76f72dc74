-- `statement::put_head` meets its contract: each total is read back from the bits that it is passed on as. Assumes nothing.
use Rattle.std.proofs.Common.{ℕ, ◌≡◌, ap, ◌∙◌, List, ℤ, w64, SFits, of_z, to_z, rules}
use Rattle.std.proofs.lemmas.Int.{to_z-of_z}
use Rattle.wire.specs.Bytes.{bits64, bytes16, bytes64, put}
use Rattle.statement.specs.Laws.{head_stored}
use Rattle.statement.proofs.put_head.Goals as goal

-- a store that was handed the bits of v, into what is known of the room
total_stored : (at : ℕ) (v : ℤ) → SFits w64 v → {r r' s : List ℕ} →
    s ≡ put r at (bytes64 (bits64 (to_z w64 (of_z w64 v)))) → r ≡ r' → s ≡ put r' at (bytes64 (bits64 v))
total_stored at v f e h = e ∙ rw (to_z-of_z w64 v f, h)

pub returns : goal.returns
returns c =
    let t = c.args.totals in
    let r1 = total_stored 2 t.value (search rules) c.put_i64.ensures c.put_u16.ensures in
    let r2 = total_stored 10 t.buyers (search rules) c.put_i64-2.ensures r1 in
    let r3 = total_stored 18 t.sellers (search rules) c.put_i64-3.ensures r2 in
    let r4 = total_stored 26 t.rent (search rules) c.put_i64-4.ensures r3 in
    let r5 = total_stored 34 t.traded (search rules) c.put_i64-5.ensures r4 in
    let r6 = total_stored 42 t.shortfall (search rules) c.put_i64-6.ensures r5 in
    c.put_u16-2.ensures
    ∙ ap (λ (r : List ℕ). put r 50 (bytes16 c.args.count)) r6
    ∙ head_stored t c.args.count c.args.room.now c.requires
