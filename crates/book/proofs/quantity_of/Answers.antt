-- `book::quantity_of` meets its contract. Assumes nothing.
use Rattle.std.proofs.Common.{◌∙◌}
use Rattle.book.specs.Book.{quantity_of}
use Rattle.book.proofs.quantity_of.Goals as goal

pub returns : goal.returns
unfolding quantity_of
returns c = c.u32_at.ensures ∙ rw (c.blocks_part.ensures.0, c.row_start.ensures.0)
