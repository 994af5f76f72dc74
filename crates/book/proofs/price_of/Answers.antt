-- `book::price_of` meets its contract. Assumes nothing.
use Rattle.std.proofs.Common.{◌∙◌, w64}
use Rattle.std.proofs.lemmas.Int.{to_z-of_z}
use Rattle.book.specs.Book.{prices_of}
use Rattle.book.proofs.price_of.Goals as goal

pub returns : goal.returns
unfolding prices_of
returns c = to_z-of_z w64 c.i32_at.result (record { sfits = c.i32_at.type_inv }) ∙ c.i32_at.ensures
