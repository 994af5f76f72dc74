-- `walk::count_rows` meets its contract. Assumes nothing.
use Rattle.std.proofs.Common.{arith}
use Rattle.cells.specs.Gains.{within_more}
use Rattle.walk.specs.Gathered.{none_within, no_sum_within, lines_within, nets_within, sums_within, rows_counted}
use Rattle.walk.proofs.count_rows.Goals as goal

pub count_lines-requires-clause-within : goal.count_lines-requires-clause-within
count_lines-requires-clause-within c =
    let zeros = c.requires.nets_value.1 in
    (none_within c.args.framed.framed.of_clearing.limits zeros.0 _, no_sum_within zeros.1 _)

pub count_steps-requires : goal.count_steps-requires
count_steps-requires c =
    let limits = c.args.framed.framed.of_clearing.limits in
    let counted = c.count_lines.ensures c.if-not-count_lines.false in
    record {
      framed = c.args.framed.framed;
      prices = c.requires.prices;
      nets_within = none_within limits c.requires.nets_value.0 _;
      sums_within = within_more (lines_within limits c.requires.prices counted (no_sum_within c.requires.nets_value.1.1 0)) (omega arith);
    }

pub count_blocks-requires-clause-within : goal.count_blocks-requires-clause-within
count_blocks-requires-clause-within c =
    let limits = c.args.framed.framed.of_clearing.limits in
    let first = c.count_lines.ensures c.if-not-count_lines.false in
    let counted = c.count_steps.ensures c.if-not-count_steps.false in
    let held = lines_within limits c.requires.prices first (no_sum_within c.requires.nets_value.1.1 0) in
    (nets_within limits c.requires.prices counted (none_within limits c.requires.nets_value.0 0), sums_within limits c.requires.prices counted held)

pub returns : goal.returns
returns c = λ e.
    rows_counted c.args.framed.counts c.args.framed.day.now c.args.framed.clearing.now c.args.framed.framed.of_clearing.limits c.requires.nets_value.1.0
    c.requires.nets_value.0 c.requires.nets_value.1.1
    (c.count_lines.ensures c.if-not-count_lines.false) (c.count_steps.ensures c.if-not-count_steps.false)
    (c.count_blocks.ensures c.if-not-count_blocks.false) (c.balanced.ensures e)
