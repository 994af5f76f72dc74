-- `walk::walk_files` meets its contract. Assumes nothing.
use Rattle.walk.specs.AllSure.{AllSure, bounds_good, prices_near, files_are}
use Rattle.walk.specs.Gathered.{traders_fit, value_fits, all_walked}
use Rattle.walk.proofs.walk_files.Goals as goal
use Rattle.walk.proofs.walk_files.Goals.{Else-not-count_rows}

pub prices_sure-requires : goal.prices_sure-requires
prices_sure-requires c = bounds_good c.in_ok-counts.ensures

pub count_rows-requires-clause-prices : goal.count_rows-requires-clause-prices
count_rows-requires-clause-prices c = prices_near (c.prices_sure.ensures c.if-not-prices_sure.false)

surely : (c : Else-not-count_rows) → AllSure c.args.day.now c.args.clearing.now c.in_ok-counts.counts
surely c =
    let r = c.count_rows.ensures c.if-not-count_rows.false in
    record {
      opened = c.in_ok-counts.ensures;
      prices = c.prices_sure.ensures c.if-not-prices_sure.false;
      lines = r.lines;
      steps = r.steps;
      blocks = r.blocks;
    }

pub totals_in-requires-clause-sfits : goal.totals_in-requires-clause-sfits
totals_in-requires-clause-sfits c =
    traders_fit (files_are (surely (goal.at.totals_in-requires-clause-sfits c).Else-not-count_rows)) (c.count_rows.ensures c.if-not-count_rows.false).sums_are

pub totals_in-requires-clause-sfits_2 : goal.totals_in-requires-clause-sfits_2
totals_in-requires-clause-sfits_2 c =
    value_fits (files_are (surely (goal.at.totals_in-requires-clause-sfits_2 c).Else-not-count_rows)) (c.count_rows.ensures c.if-not-count_rows.false).sums_are

pub returns : goal.returns
returns c =
    all_walked c.in_ok-counts.ensures (c.prices_sure.ensures c.if-not-prices_sure.false) (c.count_rows.ensures c.if-not-count_rows.false) c.totals_in.ensures
