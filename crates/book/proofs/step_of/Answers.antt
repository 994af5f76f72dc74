-- `book::step_of` meets its contract. Assumes nothing.
use Rattle.std.proofs.Common.{◌∙◌}
use Rattle.book.specs.Book.{step_of}
use Rattle.book.proofs.step_of.Goals as goal

pub returns : goal.returns
unfolding step_of
returns c = c.step_at.ensures ∙ rw c.steps_part.ensures.0
