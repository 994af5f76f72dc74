-- `book::forward_of` meets its contract. Assumes nothing.
use Rattle.std.proofs.Common.{◌∙◌}
use Rattle.whole.proofs.Size.{same}
use Rattle.book.specs.Book.{forward_of}
use Rattle.book.proofs.forward_of.Goals as goal

pub returns : goal.returns
unfolding forward_of
returns c = same c.wide.result c.wide.type_inv ∙ c.wide.ensures ∙ rw c.capacity_of.ensures
