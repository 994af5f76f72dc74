-- `totals::whole_surplus` meets its contract. Assumes nothing.
use Rattle.std.proofs.Common.{◌∙◌}
use Rattle.whole.proofs.Size.{same}
use Rattle.market.proofs.MeasureLaws.{whole_is}
use Rattle.totals.proofs.whole_surplus.Goals as goal

pub returns : goal.returns
returns c = same c.over_periods.result c.over_periods.type_inv ∙ c.over_periods.ensures ∙ whole_is _ _ _
