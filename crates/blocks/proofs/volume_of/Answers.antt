-- `blocks::volume_of` meets its contract: the whole of a quantity is that quantity. Assumes nothing.
use Rattle.std.proofs.Common.{sym}
use Rattle.market.proofs.MeasureLaws.{whole_volume}
use Rattle.blocks.proofs.volume_of.Goals as goal

pub returns-then-ratio-eq-WHOLE : goal.returns-then-ratio-eq-WHOLE
returns-then-ratio-eq-WHOLE c = rw c.if-ratio-eq-WHOLE.true (sym (whole_volume c.args.quantity))
