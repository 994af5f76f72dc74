-- `book::volume_of` meets its contract. Assumes nothing.
use Rattle.std.proofs.Common.{◌∙◌}
use Rattle.book.specs.Book.{volume_of}
use Rattle.book.proofs.volume_of.Goals as goal

pub returns : goal.returns
unfolding volume_of
returns c = c.u32_at.ensures ∙ rw c.volumes_part.ensures
