-- `book::floor_of` meets its contract. Assumes nothing.
use Rattle.std.proofs.Common.{◌∙◌, w64}
use Rattle.std.proofs.lemmas.Int.{to_z-of_z}
use Rattle.book.specs.Book.{floor_of}
use Rattle.book.proofs.floor_of.Goals as goal

pub returns : goal.returns
unfolding floor_of
returns c = to_z-of_z w64 c.i32_at.result (record { sfits = c.i32_at.type_inv }) ∙ c.i32_at.ensures
