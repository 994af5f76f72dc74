-- The number and the place of the answer are those of the first fault. Assumes nothing.
use Rattle.day.specs.Good.{day_fault}
use Rattle.day.proofs.read_day.Goals as goal

pub returns-clause-numbered : goal.returns-clause-numbered
returns-clause-numbered c = day_fault c.args.file.now c.read_sections.ensures
