-- `Tables::judge` meets its contract: what is found broken is refused with the rule's number. Assumes nothing.
use Rattle.std.proofs.Common.{sym, ◌∙◌}
use Rattle.rules.specs.Judge.{stage, broken_at}
use Rattle.rules.proofs.Tables.judge.Goals as goal

pub returns-in-Some : goal.returns-in-Some
returns-in-Some c =
    let f = c.args.self.book.framed in
    rw (c.new-in-Some.ensures, c.new.ensures)
    (broken_at (stage f.counts f.day.now f.clearing.now c.args.rule) (sym c.in-Some.is ∙ c.first_broken.ensures) c.into.ensures)
