-- `steps::count_steps` meets its contract: at first no head is known. Assumes nothing.
use Rattle.std.proofs.Common.{refl}
use Rattle.steps.specs.Known.{nothing_known}
use Rattle.steps.proofs.count_steps.Goals as goal

pub know_all-requires : goal.know_all-requires
know_all-requires c = nothing_known refl refl
