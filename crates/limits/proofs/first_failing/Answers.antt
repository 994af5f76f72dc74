use Rattle.std.proofs.Common.{◌∙◌}
use Rattle.limits.proofs.Position.{position_is}
use Rattle.limits.proofs.first_failing.Goals as goal

pub returns : goal.returns
returns c = c.first_false.ensures ∙ position_is c.args.tests.now
