-- Which field a refusal names: that each case of the tables has its outcome. Assumes nothing.
use Rattle.std.specs.Prelude.{refl}
use Rattle.rows.specs.Rows.{field_ok}
use Rattle.day.specs.Day.{day_stages}
use Rattle.clearing.specs.Clearing.{clearing_stages}
use Rattle.cases.specs.Cases.{Shown}
use Rattle.cases.specs.FieldCases.{of_network, of_step, of_block, of_two_periods, of_clearing}

network_shown : Shown of_network
unfolding day_stages clearing_stages field_ok
network_shown = (refl, (refl, (refl, (refl, (refl, (refl, (refl, (refl, (refl, (refl, tt))))))))))

step_shown : Shown of_step
unfolding day_stages clearing_stages field_ok
step_shown = (refl, (refl, (refl, (refl, (refl, (refl, (refl, (refl, tt))))))))

block_shown : Shown of_block
unfolding day_stages clearing_stages field_ok
block_shown = (refl, (refl, (refl, (refl, (refl, (refl, (refl, tt)))))))

two_periods_shown : Shown of_two_periods
unfolding day_stages clearing_stages field_ok
two_periods_shown = (refl, (refl, (refl, (refl, (refl, (refl, tt))))))

clearing_shown : Shown of_clearing
unfolding day_stages clearing_stages field_ok
clearing_shown = (refl, (refl, (refl, (refl, tt))))

pub shown : Shown of_network × (Shown of_step × (Shown of_block × (Shown of_two_periods × Shown of_clearing)))
shown = (network_shown, (step_shown, (block_shown, (two_periods_shown, clearing_shown))))
