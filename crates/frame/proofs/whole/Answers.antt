-- `frame::whole` meets its contract. Assumes nothing.
use Rattle.frame.specs.Chain.{rows_counted}
use Rattle.frame.proofs.whole.Goals as goal

pub returns : goal.returns
returns c =
    let a = c.args in
    rows_counted a.form.kind a.least a.most a.form.periods 0 a.part.now c.read_rows.result c.ok.ensures.value c.read_rows.ensures
