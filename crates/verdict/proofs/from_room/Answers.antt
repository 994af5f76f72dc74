-- `verdict::from_room` meets its contract. Assumes nothing.
use Rattle.std.proofs.Common.{◌-◌, ◌∙◌, arith}
use Rattle.statement.specs.Of.{table_fits, table_statement}
use Rattle.verdict.specs.Steps.{left_in}
use Rattle.verdict.proofs.from_room.Goals as goal

pub put_statement-requires-clause-nets_len : goal.put_statement-requires-clause-nets_len
put_statement-requires-clause-nets_len c =
    let nets = c.requires.tabled in
    (nets.long, table_fits c.args.book.reads nets c.requires.lawful.balance_rule)

pub returns-clause-left : goal.returns-clause-left
returns-clause-left c =
    let o = c.args.book.reads in
    let n = c.statement_length-n in
    left_in o c.args.room.now _ (n.result - 0) (omega (arith, n.ensures)) (omega (arith, c.if-room-n.false)) c.requires.totals_value
    (c.put_statement.ensures ∙ rw (table_statement o c.requires.tabled c.args.totals))
