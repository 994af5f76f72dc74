-- `book::least_flow_of` meets its contract. Assumes nothing.
use Rattle.std.proofs.Common.{◌∙◌}
use Rattle.whole.proofs.Size.{same}
use Rattle.book.specs.Book.{back_of}
use Rattle.book.proofs.least_flow_of.Goals as goal

pub returns : goal.returns
unfolding back_of
returns c = same c.minus.result c.minus.type_inv ∙ c.minus.ensures ∙ rw c.capacity_of.ensures
