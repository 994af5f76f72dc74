-- `frame::open_day` meets its contract: what each section's reader is sure of, and what is left is handed on. Assumes nothing.
use Rattle.std.proofs.Common.{rules}
use Rattle.frame.specs.Chain.{handed_on, FromZones, FromLines, FromSteps, FromBlocks, FromEnd}
use Rattle.day.specs.Chain.{counts_of}
use Rattle.frame.proofs.open_day.Goals as goal

pub rest-steps_part-requires : goal.rest-steps_part-requires
rest-steps_part-requires c = (c.head.ensures.sure _ c.in_ok-lines.was).1

pub rest-after_blocks-requires : goal.rest-after_blocks-requires
rest-after_blocks-requires c = (c.head-3.ensures.sure _ c.in_ok-blocks.was).1

pub returns : goal.returns
returns c =
    let k = counts_of c.in_ok-periods.periods c.in_ok-zones.zones c.in_ok-lines.lines c.in_ok-steps.steps c.in_ok-blocks.blocks in
    handed_on (λ n left. FromZones n left k) c.whole.ensures c.in_ok-periods.was c.rest-zones_part.ensures.0
    (handed_on (λ n left. FromLines c.in_ok-periods.periods n left k) c.whole-2.ensures c.in_ok-zones.was c.rest-lines_part.ensures.0
    (handed_on (λ n left. FromSteps c.in_ok-periods.periods c.in_ok-zones.zones n left k) c.head.ensures c.in_ok-lines.was c.rest-steps_part.ensures.0
    (handed_on (λ n left. FromBlocks c.in_ok-periods.periods c.in_ok-zones.zones c.in_ok-lines.lines n left k) c.head-2.ensures c.in_ok-steps.was c.rest-blocks_part.ensures.0
    (handed_on (λ n left. FromEnd (counts_of c.in_ok-periods.periods c.in_ok-zones.zones c.in_ok-lines.lines c.in_ok-steps.steps n) left k) c.head-3.ensures c.in_ok-blocks.was c.rest-after_blocks.ensures.0
    (search rules)))))
