-- The tables of the net positions and of the flows while they are gathered: what they hold after so many rows, and what the next row
-- brings. Assumes nothing.
use Rattle.std.specs.Prelude.{ℕ, ◌+◌, ◌*◌, ◌≤◌, ◌<◌, ◌≡◌, Bool, List, eqb, ℤ, neg_ℤ, nat_abs, ◌+ℤ◌, ◌-ℤ◌, get_or}
use Rattle.std.proofs.Common.{le_refl, le_trans, ◌∙◌, SFits}
use native.Mathlib.Omega.{arith}
use Rattle.std.proofs.Math.Path.{refl, sym}
use Rattle.std.proofs.Math.Bool.{true, false, cond}
use Rattle.std.proofs.Math.IntN.{pos, +ℤ_idr}
use Rattle.std.specs.Int.{w64}
use Rattle.whole.specs.Whole.{sum, at}
use Rattle.whole.specs.Ring.{linear}
use Rattle.whole.proofs.Sums.{sum_next, sum_only, at_same, at_other}
use Rattle.whole.proofs.Size.{abs-+, at_size, sum_within, fits_i64}
use Rattle.cells.specs.Cells.{added, Tabled, cell_below, more_tabled, same_tabled}
use Rattle.limits.specs.Limits.{most_periods}
use Rattle.market.specs.Measures.{by_side, measured, step_measured, block_measured}
use Rattle.market.proofs.MeasureLaws.{net_is, accepted_is, net_flow_is, net_flow_size, steps_size, blocks_size, block_part_size, flows_size}
use Rattle.market.specs.declared.Side.{Side}
use Rattle.market.specs.declared.Side.TheVariants.{Sell, Buy}
use Rattle.market.specs.declared.Trade.{Trade}
use Rattle.market.specs.declared.Measure.TheVariants.{Net}
use Rattle.day.specs.declared.Counts.{Counts}
use Rattle.day.specs.Good.{prices_most}
use Rattle.book.specs.Book.{day_of, prices_of, choice_of, line_of, flow_of}
use Rattle.book.specs.Of.{OfFiles}
use Rattle.book.specs.Ranges.{placed, ranged}
use Rattle.totals.specs.Sums.{step_trade, block_trade, one_step, one_block, one_period, net_position, line_leaves, net_flow}

-- ---- what one trade brings to its zone and period

-- a sell brings its volume, a buy takes it away
abbrev pub signed : Side → ℕ → ℤ
signed side volume = by_side side (pos volume) (neg_ℤ (pos volume))

abbrev pub brings : Trade → ℤ
brings t = signed t.side t.volume

neg_at : (k : ℕ) (x : ℤ) (i : ℕ) → neg_ℤ (at k x i) ≡ at k (neg_ℤ x) i
unfolding at
neg_at k x i = by (eqb i k)
  where
    by : (b : Bool) → neg_ℤ (cond b x (pos 0)) ≡ cond b (neg_ℤ x) (pos 0)
    by true = refl
    by false = refl

-- what is counted of a trade in a zone and period is what it brings, where these are its own
net_brings : (zone period : ℕ) (price : ℤ) (t : Trade) → measured (Net zone period) price t ≡ at t.zone (at t.period (brings t) period) zone
unfolding measured
net_brings zone period price t = by t.side
  where
    volume : ℤ
    volume = pos t.volume

    by : (side : Side) →
        by_side side (at t.zone (at t.period volume period) zone) (neg_ℤ (at t.zone (at t.period volume period) zone))
        ≡ at t.zone (at t.period (by_side side volume (neg_ℤ volume)) period) zone
    by Sell = refl
    by Buy = rw (neg_at, neg_at)

-- ---- what the tables hold on the way

module _ (c : Counts) (day clearing : List ℕ) where
  -- the net positions after n steps
  unfoldable pub after_steps : ℕ → ℕ → ℕ → ℤ
  after_steps n zone period = sum n (one_step c day clearing (Net zone period))

  -- after all steps and n blocks
  unfoldable pub after_blocks : ℕ → ℕ → ℕ → ℤ
  after_blocks n zone period = after_steps c.steps zone period +ℤ sum n (one_block c day clearing (Net zone period))

  -- after all steps, k blocks, and n periods of the block k
  unfoldable pub after_periods : ℕ → ℕ → ℕ → ℕ → ℤ
  after_periods k n zone period =
      after_blocks k zone period +ℤ sum n (one_period c day clearing (Net zone period) k ((choice_of c clearing).ratio k))

  -- what the lines carry away, after n lines
  unfoldable pub after_lines : ℕ → ℕ → ℕ → ℤ
  after_lines n zone period = sum n (line_leaves c day clearing zone period)

  -- what the line l takes from a zone and period by its flow of the period h
  abbrev leaves : ℕ → ℕ → ℕ → ℕ → ℤ
  leaves l zone period h =
      at (line_of c day l).from (at h (flow_of c clearing l h) period) zone
      -ℤ at (line_of c day l).to (at h (flow_of c clearing l h) period) zone

  -- after l lines and n periods of the line l
  unfoldable pub after_flows : ℕ → ℕ → ℕ → ℕ → ℤ
  after_flows l n zone period = after_lines l zone period +ℤ sum n (leaves l zone period)

  -- the flow of the period n has left "from", and has not yet entered "to"
  unfoldable pub on_the_way : ℕ → ℕ → ℕ → ℕ → ℤ
  on_the_way l n zone period = after_flows l n zone period +ℤ at (line_of c day l).from (at n (flow_of c clearing l n) period) zone

-- ---- x more at one place makes of a table of f a table of g

pub record Next (zones periods : ℕ) (f g : ℕ → ℕ → ℤ) (zone period : ℕ) (x : ℤ) : Type 0 where
  pub zone_is : zone < zones
  pub period_is : period < periods
  pub more : (z h : ℕ) → z < zones → h < periods → f z h +ℤ at zone (at period x h) z ≡ g z h
  pub size : nat_abs (g zone period) < 9223372036854775808

module _ {zones periods : ℕ} (most : zones * periods ≤ 200) {f g : ℕ → ℕ → ℤ} {zone period : ℕ} {x : ℤ} (n : Next zones periods f g zone period x) where
  pub next_below : zone * periods + period < 200
  next_below = cell_below most n.zone_is n.period_is

  module _ {table : List ℤ} (t : Tabled zones periods f table) where
    here : get_or table (zone * periods + period) (pos 0) +ℤ x ≡ g zone period
    here =
        rw (t.each zone period n.zone_is n.period_is)
        (rw (at_same, at_same) at (n.more zone period n.zone_is n.period_is))

    pub next_fits : SFits w64 (get_or table (zone * periods + period) (pos 0) +ℤ x)
    next_fits = rw here (fits_i64 (g zone period) n.size)

    pub next_tabled : Tabled zones periods g (added table (zone * periods + period) x)
    next_tabled = same_tabled most (more_tabled most t n.zone_is n.period_is x) n.more

next_most : {i n : ℕ} → i < n → i + 1 ≤ n
next_most l = omega arith

below_most : {i n : ℕ} → i < n → i ≤ n
below_most l = omega arith

-- ---- the rows of two files that read without fault

module _ {day clearing : List ℕ} {c : Counts} (o : OfFiles day clearing c) where
  pub cells_most : c.zones * c.periods ≤ 200
  cells_most = prices_most o.of_clearing.limits

  -- a table of these two files
  abbrev Holds : (ℕ → ℕ → ℤ) → List ℤ → Type 0
  Holds f table = Tabled c.zones c.periods f table

  -- the steps
  step_brings : (zone period i : ℕ) → let t = step_trade day clearing i in
      one_step c day clearing (Net zone period) i ≡ at t.zone (at t.period (brings t) period) zone
  unfolding step_measured
  step_brings zone period i = net_brings zone period _ (step_trade day clearing i)

  pub step_next : {i : ℕ} → i < c.steps → let t = step_trade day clearing i in
      Next c.zones c.periods (after_steps c day clearing i) (after_steps c day clearing (i + 1)) t.zone t.period (brings t)
  unfolding after_steps
  step_next {i} l =
      let p = placed o in
      let t = step_trade day clearing i in
      record {
        zone_is = p.step_zone i l;
        period_is = p.step_period i l;
        more = λ z h _ _. rw (sum_next, step_brings z h i);
        size = omega (arith, steps_size _ _ _ p (ranged o) (Net t.zone t.period) (i + 1) (next_most l));
      }

  pub no_step_yet : {table : List ℤ} → Holds (λ _ _. pos 0) table → Holds (after_steps c day clearing 0) table
  unfolding after_steps sum
  no_step_yet t = t

  -- the blocks
  period_brings : (zone period k h : ℕ) → let t = block_trade c day clearing k h ((choice_of c clearing).ratio k) in
      one_period c day clearing (Net zone period) k ((choice_of c clearing).ratio k) h ≡ at t.zone (at h (brings t) period) zone
  period_brings zone period k h = net_brings zone period _ (block_trade c day clearing k h ((choice_of c clearing).ratio k))

  blocks_within : (k zone period : ℕ) → k ≤ c.blocks → nat_abs (after_blocks c day clearing k zone period) ≤ 9000000000000000
  unfolding after_blocks after_steps
  blocks_within k zone period l =
      let p = placed o in
      let m = Net zone period in
      omega (
        arith,
        abs-+ (sum c.steps (one_step c day clearing m)) (sum k (one_block c day clearing m)),
        steps_size _ _ _ p (ranged o) m c.steps (le_refl c.steps),
        blocks_size _ _ _ p (ranged o) m k l,
      )

  pub period_next : {k h : ℕ} → k < c.blocks → h < c.periods → let t = block_trade c day clearing k h ((choice_of c clearing).ratio k) in
      Next c.zones c.periods (after_periods c day clearing k h) (after_periods c day clearing k (h + 1)) t.zone h (brings t)
  unfolding after_periods
  period_next {k} {h} l j =
      let p = placed o in
      let ratio = (choice_of c clearing).ratio k in
      let t = block_trade c day clearing k h ratio in
      record {
        zone_is = p.block_zone k l;
        period_is = j;
        more = λ z i _ _. rw (sum_next, period_brings z i k h) (simp linear (omega arith));
        size = omega (
          arith,
          abs-+ (after_blocks c day clearing k t.zone h) (sum (h + 1) (one_period c day clearing (Net t.zone h) k ratio)),
          blocks_within k t.zone h (omega arith),
          block_part_size _ _ _ p (ranged o) (Net t.zone h) (h + 1) k ratio (next_most j) l ((ranged o).ratio k l),
        );
      }

  pub no_period_yet : (k : ℕ) {table : List ℤ} → Holds (after_blocks c day clearing k) table → Holds (after_periods c day clearing k 0) table
  unfolding after_periods sum
  no_period_yet k t = same_tabled cells_most t (λ z h _ _. sym (+ℤ_idr _))

  pub block_done : (k : ℕ) {table : List ℤ} → Holds (after_periods c day clearing k c.periods) table → Holds (after_blocks c day clearing (k + 1)) table
  unfolding after_periods after_blocks block_measured
  block_done k t = same_tabled cells_most t (λ z h _ _. rw sum_next (simp linear (omega arith)))

  pub no_block_yet : {table : List ℤ} → Holds (after_steps c day clearing c.steps) table → Holds (after_blocks c day clearing 0) table
  unfolding after_blocks sum
  no_block_yet t = same_tabled cells_most t (λ z h _ _. sym (+ℤ_idr _))

  pub nets_gathered : {table : List ℤ} → Holds (after_blocks c day clearing c.blocks) table → Holds (net_position c day clearing) table
  unfolding after_blocks after_steps
  nets_gathered t =
      let d = day_of c day in
      let p = prices_of c clearing in
      let k = choice_of c clearing in
      same_tabled cells_most t (λ z h _ _. sym (accepted_is d p k (Net z h)) ∙ net_is d p k z h)

  -- the lines
  leaves_size : (l zone period h : ℕ) → l < c.lines → h < c.periods → nat_abs (leaves c day clearing l zone period h) ≤ 2000000
  leaves_size l zone period h i j =
      let flow = flow_of c clearing l h in
      net_flow_size (line_of c day l).from (line_of c day l).to zone (at h flow period) (le_trans (at_size h flow period) ((ranged o).flow l h i j))

  flows_within : (l n zone period : ℕ) → l < c.lines → n ≤ c.periods → period < c.periods →
      nat_abs (after_flows c day clearing l n zone period) ≤ 82000000
  unfolding after_flows after_lines
  flows_within l n zone period i j k =
      let p = placed o in
      omega (
        arith,
        abs-+ (sum l (line_leaves c day clearing zone period)) (sum n (leaves c day clearing l zone period)),
        flows_size _ _ _ p (ranged o) l zone period (below_most i) k,
        sum_within n most_periods (leaves c day clearing l zone period) 2000000 (le_trans j p.periods_most)
            (λ h m. leaves_size l zone period h i (le_trans m j)),
      )

  pub from_next : {l h : ℕ} → l < c.lines → h < c.periods →
      Next c.zones c.periods (after_flows c day clearing l h) (on_the_way c day clearing l h) (line_of c day l).from h (flow_of c clearing l h)
  unfolding on_the_way
  from_next {l} {h} i j =
      let p = placed o in
      let from = (line_of c day l).from in
      let flow = flow_of c clearing l h in
      record {
        zone_is = p.line_from l i;
        period_is = j;
        more = λ z k _ _. refl;
        size = rw (at_same, at_same) (omega (
          arith,
          abs-+ (after_flows c day clearing l h from h) flow,
          flows_within l h from h i (omega arith) j,
          (ranged o).flow l h i j,
        ));
      }

  pub to_next : {l h : ℕ} → l < c.lines → h < c.periods →
      Next c.zones c.periods (on_the_way c day clearing l h) (after_flows c day clearing l (h + 1)) (line_of c day l).to h (neg_ℤ (flow_of c clearing l h))
  unfolding on_the_way after_flows
  to_next {l} {h} i j =
      let p = placed o in
      record {
        zone_is = p.line_to l i;
        period_is = j;
        more = λ z k _ _. rw (← neg_at, ← neg_at, sum_next) (simp linear (omega arith));
        size = omega (arith, flows_within l (h + 1) (line_of c day l).to h i (next_most j) j);
      }

  pub no_flow_yet : (l : ℕ) {table : List ℤ} → Holds (after_lines c day clearing l) table → Holds (after_flows c day clearing l 0) table
  unfolding after_flows sum
  no_flow_yet l t = same_tabled cells_most t (λ z h _ _. sym (+ℤ_idr _))

  -- of the other periods nothing
  nothing : (from to zone : ℕ) → at from (pos 0) zone -ℤ at to (pos 0) zone ≡ pos 0
  unfolding at
  nothing from to zone = by (eqb zone from) (eqb zone to)
    where
      by : (a b : Bool) → cond a (pos 0) (pos 0) -ℤ cond b (pos 0) (pos 0) ≡ pos 0
      by true true = refl
      by true false = refl
      by false true = refl
      by false false = refl

  -- in a period a line counts its flow of that period
  own_period : (z l : ℕ) {h : ℕ} → h < c.periods → sum c.periods (leaves c day clearing l z h) ≡ line_leaves c day clearing z h l
  own_period z l {h} j =
      let ends = line_of c day l in
      sum_only c.periods h (leaves c day clearing l z h) j
      (λ i _ e. rw (at_other i (flow_of c clearing l i) h (λ q. e (sym q))) (nothing ends.from ends.to z))
      ∙ rw at_same

  pub line_done : (l : ℕ) {table : List ℤ} → Holds (after_flows c day clearing l c.periods) table → Holds (after_lines c day clearing (l + 1)) table
  unfolding after_flows after_lines
  line_done l t = same_tabled cells_most t (λ z h _ j. rw (sum_next, own_period z l j))

  pub no_line_yet : {table : List ℤ} → Holds (λ _ _. pos 0) table → Holds (after_lines c day clearing 0) table
  unfolding after_lines sum
  no_line_yet t = t

  pub flows_gathered : {table : List ℤ} → Holds (after_lines c day clearing c.lines) table → Holds (net_flow c day clearing) table
  unfolding after_lines
  flows_gathered t = same_tabled cells_most t (λ z h _ _. net_flow_is (day_of c day) (choice_of c clearing) z h)
