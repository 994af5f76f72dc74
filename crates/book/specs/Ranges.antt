-- The day, the prices and the choice of two files that read without fault lie within their limits, and so does what is counted of them.
-- Assumes nothing.
use Rattle.std.specs.Prelude.{ℕ, ◌≤◌, List, ℤ, pos, nat_abs}
use Rattle.std.proofs.Common.{le_refl, arith, subst}
use Rattle.whole.specs.Whole.{◌≼◌, sum}
use Rattle.whole.specs.Ring.{linear}
use Rattle.whole.proofs.Size.{abs_le, abs-+}
use Rattle.limits.specs.Limits.{most_price, most_flow}
use Rattle.rows.specs.Sentences.{IsPrice, IsFlow}
use Rattle.market.specs.Market.{accepted}
use Rattle.market.specs.Range.{Placed, Ranged}
use Rattle.market.specs.Measures.{priced, step_measured, block_measured}
use Rattle.market.proofs.MeasureLaws.{accepted_is, steps_size, blocks_size}
use Rattle.market.specs.declared.Measure.{Measure}
use Rattle.day.specs.declared.Counts.{Counts}
use Rattle.day.specs.Day.{counts}
use Rattle.day.specs.Good.{GoodDay, in_limits, good_line, good_step, good_block}
use Rattle.clearing.specs.Good.{good_price, good_flow, good_volume, good_ratio}
use Rattle.book.specs.Book.{day_of, line_of, forward_of, back_of, step_of, block_of, quantity_of, prices_of, flow_of, volume_of, ratio_of, choice_of}
use Rattle.book.specs.Of.{OfFiles, cell_below}

-- ---- numbers

price_size : {p : ℤ} → IsPrice p → nat_abs p ≤ most_price
price_size {p} i = (abs_le p most_price).1 (i.low, i.high)

flow_size : {f : ℤ} → IsFlow f → nat_abs f ≤ most_flow
flow_size {f} i = (abs_le f most_flow).1 (i.low, i.high)

pos_least : (n : ℕ) → pos 0 ≼ pos n
pos_least n = simp linear (omega arith)

-- ---- the day, by the file's own counts and by the counts in hand

placed_own : {day : List ℕ} → GoodDay day → Placed (day_of (counts day) day)
unfolding line_of forward_of back_of step_of block_of quantity_of
placed_own g = record {
  periods_most = (in_limits g).periods_most;
  zones_most = (in_limits g).zones_most;
  lines_most = (in_limits g).lines_most;
  steps_most = (in_limits g).steps_most;
  blocks_most = (in_limits g).blocks_most;
  line_from = λ l b. (good_line g b).from_is;
  line_to = λ l b. (good_line g b).to_is;
  forward_least = λ l h _ _. pos_least _;
  back_least = λ l h _ _. pos_least _;
  step_zone = λ i b. (good_step g b).zone_is;
  step_period = λ i b. (good_step g b).period_is;
  step_limit = λ i b. price_size (good_step g b).price_is;
  block_zone = λ k b. (good_block g b).zone_is;
  block_limit = λ k b. price_size (good_block g b).price_is;
  block_quantity = λ k h b. (good_block g b).quantity_is h;
}

pub placed : {day clearing : List ℕ} {c : Counts} → OfFiles day clearing c → Placed (day_of c day)
placed {day} o = subst (λ (k : Counts). Placed (day_of k day)) o.of_day.counted (placed_own o.good_day)

-- ---- the prices and the choice

pub ranged : {day clearing : List ℕ} {c : Counts} → OfFiles day clearing c → Ranged (day_of c day) (prices_of c clearing) (choice_of c clearing)
unfolding prices_of flow_of volume_of ratio_of
ranged o =
    let g = o.good_clearing in
    record {
      price = λ z h a b. price_size (good_price g (cell_below a b));
      flow = λ l h a b. flow_size (good_flow g (cell_below a b));
      volume = λ i b. good_volume g b;
      ratio = λ k b. good_ratio g b;
    }

-- ---- what is counted of all that is accepted

pub accepted_size : {day clearing : List ℕ} {c : Counts} → OfFiles day clearing c → (m : Measure) →
    nat_abs (accepted (day_of c day) (choice_of c clearing) (priced m (prices_of c clearing))) ≤ 9000000000000000
accepted_size {day} {clearing} {c} o m =
    let d = day_of c day in
    let p = prices_of c clearing in
    let ch = choice_of c clearing in
    rw (accepted_is d p ch m)
    (omega (
      arith,
      abs-+ (sum c.steps (step_measured d p ch m)) (sum c.blocks (λ k. block_measured d p m k (ratio_of clearing k))),
      steps_size d p ch (placed o) (ranged o) m c.steps (le_refl c.steps),
      blocks_size d p ch (placed o) (ranged o) m c.blocks (le_refl c.blocks),
    ))
