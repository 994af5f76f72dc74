-- `book::ratio_of` meets its contract. Assumes nothing.
use Rattle.std.proofs.Common.{◌∙◌}
use Rattle.book.specs.Book.{ratio_of}
use Rattle.book.proofs.ratio_of.Goals as goal

pub returns : goal.returns
unfolding ratio_of
returns c = c.narrow.ensures ∙ c.u16_at.ensures.0 ∙ rw c.ratios_part.ensures
