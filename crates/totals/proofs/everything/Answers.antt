-- `totals::everything` meets its contract. Assumes nothing.
use Rattle.std.proofs.Common.{ℕ, le_refl, arith, ◌≡◌, sym, ◌∙◌, List, ◌+ℤ◌, w64, SFits, to_z, of_z}
use Rattle.whole.specs.Whole.{sum}
use Rattle.whole.proofs.Size.{abs-+, fits_i64, same}
use Rattle.market.proofs.MeasureLaws.{accepted_is, steps_size, blocks_size}
use Rattle.market.specs.declared.Measure.{Measure}
use Rattle.day.specs.declared.Counts.{Counts}
use Rattle.book.specs.Book.{day_of, prices_of, choice_of}
use Rattle.book.specs.Of.{OfFiles}
use Rattle.book.specs.Ranges.{placed, ranged}
use Rattle.totals.specs.Sums.{one_step, one_block, everything}
use Rattle.totals.proofs.everything.Goals as goal
use Rattle.totals.proofs.everything.Goals.{After-over_blocks}

everything_fits : {day clearing : List ℕ} {c : Counts} → OfFiles day clearing c → (m : Measure) → SFits w64 (everything c day clearing m)
everything_fits {day} {clearing} {c} o m =
    let steps = sum c.steps (one_step c day clearing m) in
    let blocks = sum c.blocks (one_block c day clearing m) in
    let p = placed o in
    rw (accepted_is (day_of c day) (prices_of c clearing) (choice_of c clearing) m)
    (fits_i64 _ (omega (
      arith,
      abs-+ steps blocks,
      steps_size _ _ _ p (ranged o) m c.steps (le_refl c.steps),
      blocks_size _ _ _ p (ranged o) m c.blocks (le_refl c.blocks),
    )))

both : (c : After-over_blocks) → let a = c.args in
    to_z w64 (of_z w64 c.over_steps.result) +ℤ to_z w64 (of_z w64 c.over_blocks.result)
    ≡ everything a.book.framed.counts a.book.framed.day.now a.book.framed.clearing.now a.measure
both c =
    let steps = c.over_steps in
    let blocks = c.over_blocks in
    rw (same steps.result steps.type_inv, same blocks.result blocks.type_inv, steps.ensures, blocks.ensures)
    (sym (accepted_is _ _ _ c.args.measure))

pub add-requires : goal.add-requires
add-requires c = rw (both (goal.at.add-requires c).After-over_blocks) (everything_fits c.args.book.reads c.args.measure)

pub returns : goal.returns
returns c = same c.add.result c.add.type_inv ∙ c.add.ensures ∙ both (goal.at.returns c).After-over_blocks
