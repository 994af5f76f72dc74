-- `statement::put_statement` meets its contract. Assumes nothing.
use Rattle.std.proofs.Common.{◌∙◌, pos, get_or}
use Rattle.statement.specs.Laws.{statement_stored}
use Rattle.statement.specs.Of.{net_count}
use Rattle.statement.proofs.put_statement.Goals as goal

pub returns : goal.returns
returns c =
    let a = c.args in
    c.put_nets.ensures
    ∙ rw (c.put_head.ensures, c.count_of.ensures)
    (statement_stored a.totals (λ k. get_or a.nets.now k (pos 0)) (net_count a.counts) a.room.now c.requires.in_limits.1)
