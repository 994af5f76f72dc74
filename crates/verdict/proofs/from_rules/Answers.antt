-- `verdict::from_rules` meets its contract. Assumes nothing.
use Rattle.std.proofs.Common.{sym, ◌∙◌}
use Rattle.cells.specs.Cells.{none_tabled}
use Rattle.totals.specs.Gather.{cells_most}
use Rattle.verdict.specs.Steps.{released}
use Rattle.verdict.proofs.from_rules.Goals as goal

pub gather_nets-requires : goal.gather_nets-requires
gather_nets-requires c = none_tabled (cells_most c.args.book.reads)

pub gather_flows-requires : goal.gather_flows-requires
gather_flows-requires c = none_tabled (cells_most c.args.book.reads)

pub from_room-requires-clause-lawful : goal.from_room-requires-clause-lawful
from_room-requires-clause-lawful c = (released c.args.book.reads (sym c.in_ok-first_fault.was ∙ c.first_fault.ensures)).lawful
