-- `book::line_of` meets its contract. Assumes nothing.
use Rattle.std.proofs.Common.{◌∙◌}
use Rattle.book.specs.Book.{line_of}
use Rattle.book.proofs.line_of.Goals as goal

pub returns : goal.returns
unfolding line_of
returns c = c.line_at.ensures ∙ rw (c.lines_part.ensures.0, c.row_start.ensures.0)
