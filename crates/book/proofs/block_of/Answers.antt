-- `book::block_of` meets its contract. Assumes nothing.
use Rattle.std.proofs.Common.{◌∙◌}
use Rattle.book.specs.Book.{block_of}
use Rattle.book.proofs.block_of.Goals as goal

pub returns : goal.returns
unfolding block_of
returns c = c.block_at.ensures ∙ rw (c.blocks_part.ensures.0, c.row_start.ensures.0)
