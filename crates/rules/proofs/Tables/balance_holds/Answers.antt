-- `Tables::balance_holds` meets its contract: the cells of both tables are those of the zone and period. Assumes nothing.
use Rattle.std.proofs.Common.{◌∙◌}
use Rattle.book.specs.Of.{price_cell}
use Rattle.market.specs.Rules.{test}
use Rattle.rules.proofs.Tables.balance_holds.Goals as goal

pub cell-cell-requires : goal.cell-cell-requires
cell-cell-requires c = price_cell c.args.self.book.reads.of_clearing c.requires

pub same_at-requires : goal.same_at-requires
same_at-requires c =
    let g = c.args.self.gathered in
    let below = price_cell c.args.self.book.reads.of_clearing c.requires in
    rw (c.cell-cell.ensures, g.nets_are.long, g.flows_are.long) (below, below)

pub returns : goal.returns
unfolding test
returns c =
    let g = c.args.self.gathered in
    let p = c.requires in
    c.same_at.ensures ∙ rw (c.cell-cell.ensures, g.nets_are.each _ _ p.0 p.1, g.flows_are.each _ _ p.0 p.1)
