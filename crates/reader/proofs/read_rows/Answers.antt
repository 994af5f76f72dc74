-- `reader::read_rows` meets its contract. Assumes nothing.
use Rattle.std.proofs.Common.{◌≡◌, sym, ap, ◌∙◌}
use Rattle.std.specs.Prelude.{ℕ, Result}
use Rattle.std.proofs.lemmas.Result.{err_from_is_err_and}
use Rattle.sections.specs.Answer.{head_same, head_section, rows_by, section_of, with_rows}
use Rattle.sections.specs.declared.SectionFault.{SectionFault}
use Rattle.rows.specs.Rows.{row_size, field_count, field_ok}
use Rattle.reader.proofs.read_rows.Goals as goal
use Rattle.reader.proofs.read_rows.Goals.{After-read_head}

answered : (c : After-read_head) {x : Result ℕ SectionFault} → c.read_head.result ≡ x →
    with_rows (field_count c.args.form.kind c.args.form.periods) (field_ok c.args.form.kind c.args.form.periods c.args.zones c.args.part.now) x
    ≡ section_of c.args.least c.args.most (row_size c.args.form.kind c.args.form.periods) (field_count c.args.form.kind c.args.form.periods)
    (field_ok c.args.form.kind c.args.form.periods c.args.zones c.args.part.now) c.args.part.now
answered c e =
    head_section c.args.least c.args.most (row_size c.args.form.kind c.args.form.periods) _ _ c.args.part.now
    (sym e ∙ head_same c.args.least c.args.most c.args.part.now c.size.ensures.0 c.read_head.ensures)

pub returns-in-Some : goal.returns-in-Some
returns-in-Some c =
    ap (rows_by _) (sym c.in-Some.is ∙ c.bad_field.ensures) ∙ answered (goal.at.returns-in-Some c).After-read_head c.in_ok-n.was

pub returns-in-None : goal.returns-in-None
returns-in-None c =
    ap (rows_by _) (sym c.in-None.is ∙ c.bad_field.ensures) ∙ answered (goal.at.returns-in-None c).After-read_head c.in_ok-n.was

pub returns-in_err-n : goal.returns-in_err-n
returns-in_err-n c =
    let p = err_from_is_err_and c.from_residual.result c.from_residual.ensures.1 in
    rw (p.1, p.2) (answered (goal.at.returns-in_err-n c).After-read_head c.in_err-n.was)
