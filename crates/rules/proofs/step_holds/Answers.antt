-- `rules::step_holds` meets its contract. Assumes nothing.
use Rattle.std.proofs.Common.{w64, rules}
use Rattle.std.proofs.lemmas.Int.{to_z-of_z}
use Rattle.book.specs.Ranges.{placed}
use Rattle.whole.proofs.Size.{same}
use Rattle.market.specs.Rules.{test}
use Rattle.rules.proofs.step_holds.Goals as goal

pub price-requires : goal.price-requires
price-requires c =
    let day = placed c.args.book.reads in
    rw c.step-step.ensures ((day.step_zone _ c.requires, day.step_period _ c.requires))

pub returns : goal.returns
unfolding test
returns c =
    rw (
      c.step_ok.ensures,
      c.volume.ensures,
      same c.price.result c.price.type_inv,
      c.price.ensures,
      to_z-of_z w64 c.step-step.result.limit (search rules),
      c.step-step.ensures,
    )
