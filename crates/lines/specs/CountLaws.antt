-- The laws by which the walk over prices, lines and flows goes on: that what is asked is there, and that what is told adds up.
-- Assumes nothing.
use Rattle.std.specs.Prelude.{ℕ, ◌+◌, ◌*◌, ◌<◌, ◌≤◌, ◌≡◌, refl, Bool, true, false, cond, not, ◌&&◌, List, ltb, eqb, ℤ, pos, neg_ℤ, nat_abs, ◌+ℤ◌, ◌-ℤ◌, ◌*ℤ◌, length, get_or}
use Rattle.std.proofs.Common.{eq-or-lt_of_le, le_antisymm, arith, sym, ap, ◌∙◌, ⊎_elim, SFits, to_z, of_z, eqb-true}
use Rattle.std.proofs.Math.Nat.{le_trans}
use Rattle.std.specs.Int.{w64}
use Rattle.std.proofs.lemmas.Int.{to_z-of_z}
use Rattle.whole.specs.Whole.{◌≼◌, ◌≺◌, sum, at}
use Rattle.whole.specs.Ring.{le_z_true, le_z_false, ≼_refl, ≼_trans, ≼_of_<, neg_anti, pos-≼}
use Rattle.whole.proofs.Sums.{at_same, at_other, sum_next, sum_zero, sum_only}
use Rattle.whole.proofs.Size.{abs_le, abs_neg, abs-+, abs--, abs-*-≤, at_size, sum_within, fits_i64}
use Rattle.stages.specs.First.{both, apart, ltb_is, eqb_is, not_is}
use Rattle.cells.specs.Gains.{nothing, all, SumsWithin, SumsGained, nothing_within, within_more, all_within, no_gain, gained_next, within_gained as within_gain, more_fits, more_is}
use Rattle.cells.specs.declared.Sums.{Sums}
use Rattle.cells.specs.Cells.{added, Gained, Within, nothing_gained, gained_at, gained_then, gained_same, within_gained, cell_below}
use Rattle.limits.specs.Limits.{most_periods, most_lines, most_price, most_flow, most_volume}
use Rattle.market.specs.Market.{rent_at}
use Rattle.market.specs.Rules.{test, line_ok}
use Rattle.market.specs.Measures.{line_leaves}
use Rattle.market.proofs.MeasureLaws.{net_flow_size}
use Rattle.market.specs.declared.Line.{Line}
use Rattle.rows.specs.Rows.{row_start, from, to, forward, back}
use Rattle.rows.specs.Sentences.{IsPrice, IsFlow}
use Rattle.rows.specs.declared.Kind.TheVariants.{Lines}
use Rattle.day.specs.declared.Counts.{Counts}
use Rattle.day.specs.Day.{lines_part}
use Rattle.day.specs.Good.{prices_most}
use Rattle.book.specs.Book.{line_at, line_of, forward_of, back_of, floor_of, ceiling_of, prices_of, flow_of, day_of, choice_of}
use Rattle.book.specs.DayRows.{line_within}
use Rattle.lines.specs.Sure.{SurePrice, SureLine, LinesCounted, line_gives}
use Rattle.lines.specs.Counted.{Below, Between, Gathered, FlowSure, carried, Carries, rent_of, FlowAsks, FlowCounted}
use Rattle.lines.specs.Counted.{EndsSure, LineAsks, PeriodsCounted, LineCounted, LinesAsk, LinesSoFar}

-- ---- what holds at each place below n

pub none_below : {P : ℕ → Type 0} → Below 0 P
none_below = record { each = λ i l. absurd (omega arith) }

pub more_below : {n : ℕ} {P : ℕ → Type 0} → Below n P → P n → Below (n + 1) P
more_below b p = record { each = λ i l. ⊎_elim (λ e. rw e p) (λ m. b.each i m) (eq-or-lt_of_le (omega arith)) }

pub all_below : {n i : ℕ} {P : ℕ → Type 0} → Below i P → n ≤ i → Below n P
all_below b l = record { each = λ k m. b.each k (omega arith) }

-- doubt promises nothing
pub doubt : {A : Type 0} → false ≡ true → A
doubt e = apart e refl

-- ---- prices

between_is : (least most x : ℤ) → Between least most x → (least ≼ x) × (x ≼ most)
between_is least most x b = simp (both, le_z_true) at b

-- a price from floor to ceiling, which are prices, is a price
pub sure_price : {c : Counts} {day clearing : List ℕ} {z h : ℕ} → IsPrice (floor_of day h) × IsPrice (ceiling_of day h) →
    Between (floor_of day h) (ceiling_of day h) (prices_of c clearing z h) → SurePrice c day clearing z h
unfolding test
sure_price ends b =
    let i = between_is _ _ _ b in
    record { price_is = record { low = ≼_trans ends.0.low i.0; high = ≼_trans i.1 ends.1.high }; kept = b }

-- ---- one flow

-- two numbers with the same bits are the same
pub bits_same : (x y : ℤ) → SFits w64 x → SFits w64 y → eqb (of_z w64 x) (of_z w64 y) ≡ true → x ≡ y
bits_same x y f g e = sym (to_z-of_z w64 x f) ∙ ap (to_z w64) (eqb-true (of_z w64 x) (of_z w64 y) e) ∙ to_z-of_z w64 y g

-- "to" is dearer, cheaper, as dear
module _ (most least from to flow : ℤ) where
  pub to_dearer : from ≺ to → flow ≡ most → line_ok most least from to flow ≡ true
  to_dearer l e = rw (e, (le_z_false to from).1 l, (le_z_true from to).1 (≼_of_< l), (le_z_true most most).1 (≼_refl most))

  pub to_cheaper : to ≺ from → flow ≡ least → line_ok most least from to flow ≡ true
  to_cheaper l e = rw (e, (le_z_false from to).1 l, (le_z_true to from).1 (≼_of_< l), (le_z_true least least).1 (≼_refl least))

  pub to_as_dear : to ≼ from → from ≼ to → line_ok most least from to flow ≡ true
  to_as_dear l m = rw ((le_z_true to from).1 l, (le_z_true from to).1 m)

-- a number at one end and its opposite at the other
two_ends : (a b period : ℕ) (x : ℤ) (z h : ℕ) → at a (at period x h) z +ℤ at b (at period (neg_ℤ x) h) z ≡ at period (at a x z -ℤ at b x z) h
unfolding at
two_ends a b period x z h = by (eqb z a) (eqb z b) (eqb h period)
  where
    by : (a b h : Bool) →
        cond a (cond h x (pos 0)) (pos 0) +ℤ cond b (cond h (neg_ℤ x) (pos 0)) (pos 0) ≡ cond h (cond a x (pos 0) -ℤ cond b x (pos 0)) (pos 0)
    by a true true = refl
    by a false true = refl
    by true true false = refl
    by true false false = refl
    by false true false = refl
    by false false false = refl

module _ {c : Counts} {ends : Line} {period : ℕ} {flow : ℤ} {table : List ℤ} (k : Carries c ends period flow table)
    (long : length table ≡ 200) where
  pub cell_is : {zone : ℕ} → zone < c.zones → zone * c.periods + period < 200
  cell_is l = cell_below (prices_most k.limits) l k.period_is

  -- a store asks that the cell is there and the sum fits
  pub from_fits : {cell : ℕ} {x : ℤ} → cell ≡ ends.from * c.periods + period → x ≡ flow →
      (cell < length table) × SFits w64 (get_or table cell (pos 0) +ℤ x)
  from_fits e q = rw (e, q, long) (
    cell_is k.from_is,
    fits_i64 _ (omega (arith, k.room _ _ k.from_is k.period_is, k.small, abs-+ (get_or table (ends.from * c.periods + period) (pos 0)) flow)),
  )

  -- `after` is the table with the first number stored
  module _ {left : ℕ} {x : ℤ} {after : List ℤ} (e : left ≡ ends.from * c.periods + period) (q : x ≡ flow)
      (a : after ≡ added table left x) where
    from_gained : Gained c.zones c.periods (λ z h. at ends.from (at period flow h) z) table after
    from_gained = rw (a, e, q) (gained_at ends.from period (rw long (cell_is k.from_is)) k.period_is flow)

    pub to_fits : {cell : ℕ} {y : ℤ} → cell ≡ ends.to * c.periods + period → y ≡ neg_ℤ flow →
        (cell < length after) × SFits w64 (get_or after cell (pos 0) +ℤ y)
    to_fits f o =
        let room = within_gained from_gained {more = most_flow} k.room
        (λ z h _ _. le_trans (at_size ends.from (at period flow h) z) (le_trans (at_size period flow h) k.small)) in
        rw (f, o, from_gained.long, long) (
          cell_is k.to_is,
          fits_i64 _
              (omega (
                arith,
                room _ _ k.to_is k.period_is,
                k.small,
                abs_neg flow,
                abs-+ (get_or after (ends.to * c.periods + period) (pos 0)) (neg_ℤ flow),
              )),
        )

    pub both_gained : {cell : ℕ} {y : ℤ} {end : List ℤ} → cell ≡ ends.to * c.periods + period → y ≡ neg_ℤ flow → end ≡ added after cell y →
        Gained c.zones c.periods (carried ends period flow) table end
    both_gained f o b =
        let there : ends.to * c.periods + period < length after = rw (from_gained.long, long) (cell_is k.to_is) in
        gained_same (gained_then from_gained (rw (b, f, o) (gained_at ends.to period there k.period_is (neg_ℤ flow))))
        (λ z h _ _. two_ends ends.from ends.to period flow z h)

-- ---- a line in one period

module _ {forward back : ℕ} {from to flow : ℤ} (s : FlowSure forward back from to flow) where
  -- a flow between its capacities is a flow
  pub sure_flow : IsFlow flow
  sure_flow =
      let i = between_is _ _ _ s.between in
      record {
        low = ≼_trans (neg_anti ((pos-≼ back most_volume).1 s.back_is)) i.0;
        high = ≼_trans i.1 ((pos-≼ forward most_volume).1 s.forward_is);
      }

pub flow_small : {flow : ℤ} → IsFlow flow → nat_abs flow ≤ most_flow
flow_small {flow} i = (abs_le flow most_flow).1 (i.low, i.high)

-- a rent is at most 2,000,000 times 1,000,000
rent_small : (flow from to : ℤ) → nat_abs flow ≤ most_flow → nat_abs from ≤ most_price → nat_abs to ≤ most_price →
    nat_abs (flow *ℤ (to -ℤ from)) ≤ 2000000000000
rent_small flow from to f a b = abs-*-≤ flow (to -ℤ from) 1000000 2000000 f (omega (arith, abs-- to from, a, b))

-- a rent is more in one of the sums
rent_gained : (sums : Sums) (x : ℤ) → SumsGained (record nothing { rent = x }) sums (record sums { rent = sums.rent +ℤ x })
rent_gained sums x =
    let same : SumsGained nothing sums sums = no_gain in
    record { buyers = same.buyers; sellers = same.sellers; rent = refl; traded = same.traded; shortfall = same.shortfall }

module _ {c : Counts} {clearing : List ℕ} {l h : ℕ} {ends : Line} {flows : List ℤ} {sums : Sums} (a : FlowAsks c clearing l h ends flows sums) where
  -- with the numbers that are read
  module _ {forward back : ℕ} {from to flow : ℤ} (f : flow ≡ flow_of c clearing l h) (p : from ≡ prices_of c clearing ends.from h)
      (q : to ≡ prices_of c clearing ends.to h) (s : FlowSure forward back from to flow) where
    -- what the rent asks, what adding it asks and makes, and what storing the flow asks
    pub rent_asks : (nat_abs flow ≤ most_flow) × ((nat_abs from ≤ most_price) × (nat_abs to ≤ most_price))
    rent_asks = (
      flow_small (sure_flow s),
      (rw p (a.prices ends.from h a.from_is a.period_is), rw q (a.prices ends.to h a.to_is a.period_is)),
    )

    rent_near : nat_abs (flow *ℤ (to -ℤ from)) ≤ 2000000000000
    rent_near = rent_small flow from to rent_asks.0 rent_asks.1.0 rent_asks.1.1

    pub rent_fits : {x : ℤ} → x ≡ flow *ℤ (to -ℤ from) → SFits w64 (to_z w64 (of_z w64 sums.rent) +ℤ x)
    rent_fits e = rw e (more_fits sums.rent (flow *ℤ (to -ℤ from)) a.sums_room.rent rent_near (omega arith))

    pub rent_is : {x : ℤ} → x ≡ flow *ℤ (to -ℤ from) → to_z w64 (of_z w64 (to_z w64 (of_z w64 sums.rent) +ℤ x)) ≡ sums.rent +ℤ x
    rent_is e = rw e (more_is sums.rent (flow *ℤ (to -ℤ from)) a.sums_room.rent rent_near (omega arith))

    pub flow_carries : Carries c ends h flow flows
    flow_carries = record {
      limits = a.of_clearing.limits;
      from_is = a.from_is;
      to_is = a.to_is;
      period_is = a.period_is;
      small = rent_asks.0;
      room = a.flows_room;
    }

    pub flow_counted : {x : ℤ} {sums₁ : Sums} {flows₁ : List ℤ} → x ≡ flow *ℤ (to -ℤ from) → sums₁ ≡ record sums { rent = sums.rent +ℤ x } →
        Gained c.zones c.periods (carried ends h flow) flows flows₁ → FlowCounted c clearing l h ends forward back flows flows₁ sums sums₁
    flow_counted e b g = record {
      sure = rw (f, p, q) at s;
      flows = rw f at g;
      sums = rw (b, e, f, p, q) (rent_gained sums (rent_of c clearing ends l h));
    }

-- ---- a sum gathered in a table, term by term

pub none_gathered : {zones periods : ℕ} {g : ℕ → ℕ → ℕ → ℤ} {a : List ℤ} → Gathered zones periods g 0 a a
unfolding sum
none_gathered = record { gained = nothing_gained }

module _ {zones periods n : ℕ} {g : ℕ → ℕ → ℕ → ℤ} {a b : List ℤ} (s : Gathered zones periods g n a b) where
  pub more_gathered : {e : List ℤ} → Gained zones periods (g n) b e → Gathered zones periods g (n + 1) a e
  more_gathered t = record { gained = gained_same (gained_then s.gained t) (λ z h _ _. sym (sum_next n (λ i. g i z h))) }

  -- at most so many terms, each within its size
  pub gathered_room : {bound most size room : ℕ} → Within zones periods bound a → n ≤ most →
      ((i : ℕ) → i < n → (z h : ℕ) → z < zones → h < periods → nat_abs (g i z h) ≤ size) →
      bound + most * size ≤ room → Within zones periods room b
  gathered_room {most = most} {size} w l small fits z h i j =
      le_trans
      (within_gained s.gained w (λ z h i j. sum_within n most (λ k. g k z h) size l (λ k m. small k m z h i j)) z h i j)
      fits

-- ---- a line

pub ends_sure : {c : Counts} {part : List ℕ} {at : ℕ} {ends : Line} → ends ≡ line_at part at →
    ((ltb ends.from c.zones && ltb ends.to c.zones) && not (eqb ends.to ends.from)) ≡ true → EndsSure c part at
ends_sure {c} {part} {at} e t =
    let h : ((ltb (from part at) c.zones && ltb (to part at) c.zones) && not (eqb (to part at) (from part at))) ≡ true = rw e at t in
    let g = simp (both, ltb_is, not_is, eqb_is) at h in
    record { from_is = g.0.0; to_is = g.0.1; different = g.1 }

module _ {c : Counts} {clearing part : List ℕ} {at l : ℕ} where
  pub no_period : {flows : List ℤ} {sums : Sums} → PeriodsCounted c clearing part at l 0 flows flows sums sums
  unfolding sum
  no_period = record { within = omega arith; sure = none_below; flows = none_gathered; sums = no_gain }

  module _ {n : ℕ} {flows₀ flows₁ : List ℤ} {sums₀ sums₁ : Sums} (g : EndsSure c part at)
      (p : PeriodsCounted c clearing part at l n flows₀ flows₁ sums₀ sums₁) where
    pub line_counted : c.periods ≤ n → LineCounted c clearing part at l flows₀ flows₁ sums₀ sums₁
    line_counted m =
        let q : PeriodsCounted c clearing part at l c.periods flows₀ flows₁ sums₀ sums₁ = rw (le_antisymm p.within m) at p in
        record {
          row = record {
            from_is = g.from_is;
            to_is = g.to_is;
            different = g.different;
            forward_is = λ h i. (q.sure.each h i).forward_is;
            back_is = λ h i. (q.sure.each h i).back_is;
          };
          all = q;
        }

    module _ (a : LineAsks c clearing part at l flows₀ sums₀) (m : n < c.periods) {ends : Line} (e : ends ≡ line_at part at) where
      flow_within : (h : ℕ) → h < n → nat_abs (flow_of c clearing l h) ≤ most_flow
      flow_within h i = flow_small (sure_flow (p.sure.each h i))

      carried_within : (h : ℕ) → h < n → (z k : ℕ) → z < c.zones → k < c.periods →
          nat_abs (carried (line_at part at) h (flow_of c clearing l h) z k) ≤ 2000000
      carried_within h i z k _ _ =
          le_trans (at_size h _ k) (net_flow_size (from part at) (to part at) z (flow_of c clearing l h) (flow_within h i))

      rent_within : (h : ℕ) → h < n → SumsWithin 2000000000000 (record nothing { rent = rent_of c clearing (line_at part at) l h })
      rent_within h i =
          let j : h < c.periods = omega (arith, p.within) in
          let none = nothing_within 2000000000000 in
          record {
            buyers = none.buyers;
            sellers = none.sellers;
            rent = rent_small (flow_of c clearing l h) (prices_of c clearing (from part at) h) (prices_of c clearing (to part at) h) (flow_within h i)
                (a.prices (from part at) h g.from_is j) (a.prices (to part at) h g.to_is j);
            traded = none.traded;
            shortfall = none.shortfall;
          }

      few : n ≤ most_periods
      few = le_trans p.within a.of_clearing.limits.periods_most

      pub period_asks : FlowAsks c clearing l n ends flows₁ sums₁
      period_asks = record {
        of_clearing = a.of_clearing;
        prices = a.prices;
        line_is = a.line_is;
        period_is = m;
        from_is = rw e g.from_is;
        to_is = rw e g.to_is;
        flows_room = gathered_room p.flows a.flows_room few carried_within (omega arith);
        sums_room = within_more (within_gain p.sums a.sums_room (all_within n most_periods 2000000000000 _ few rent_within)) (omega arith);
      }

      pub period_counted : {fore aft : ℕ} {flows₂ : List ℤ} {sums₂ : Sums} → fore ≡ forward part at n → aft ≡ back part at n →
          FlowCounted c clearing l n ends fore aft flows₁ flows₂ sums₁ sums₂ →
          PeriodsCounted c clearing part at l (n + 1) flows₀ flows₂ sums₀ sums₂
      period_counted q r k =
          let t = rw (e, q, r) at k in
          record {
            within = omega arith;
            sure = more_below p.sure t.sure;
            flows = more_gathered p.flows t.flows;
            sums = gained_next n (λ h. record nothing { rent = rent_of c clearing (line_at part at) l h }) p.sums t.sums;
          }

-- ---- all lines

-- of terms at different places one counts; terms at one place add up there
sum_places : (n k : ℕ) (f : ℕ → ℤ) → k < n → sum n (λ i. at i (f i) k) ≡ f k
sum_places n k f l = sum_only n k (λ i. at i (f i) k) l (λ i _ e. at_other i (f i) k (λ q. e (sym q))) ∙ at_same k (f k)

-- the rents of n periods
sum_rents : (n : ℕ) (f : ℕ → ℤ) {a b : Sums} → SumsGained (all n (λ h. record nothing { rent = f h })) a b →
    SumsGained (record nothing { rent = sum n f }) a b
sum_rents n f s =
    let none : sum n (λ _. pos 0) ≡ pos 0 = sum_zero n (λ _. pos 0) (λ _ _. refl) in
    record {
      buyers = rw none at s.buyers;
      sellers = rw none at s.sellers;
      rent = s.rent;
      traded = rw none at s.traded;
      shortfall = rw none at s.shortfall;
    }

-- one line, by its row in the day file
module _ {c : Counts} (day : List ℕ) {clearing : List ℕ} {l : ℕ} {flows₀ flows₁ : List ℤ} {sums₀ sums₁ : Sums}
    (k : LineCounted c clearing (lines_part day) (row_start Lines c.periods l) l flows₀ flows₁ sums₀ sums₁) where
  sure_line : SureLine c day clearing l
  unfolding test line_of forward_of back_of
  sure_line = record {
    row = k.row;
    flow_is = λ h i. sure_flow (k.all.sure.each h i);
    capacity = λ h i. (k.all.sure.each h i).between;
    line = λ h i. (k.all.sure.each h i).full;
  }

  line_leaves_lem : Gained c.zones c.periods (λ z h. line_leaves (day_of c day) (choice_of c clearing) z h l) flows₀ flows₁
  unfolding line_of
  line_leaves_lem =
      gained_same k.all.flows.gained
      (λ z h _ i. sum_places c.periods h (λ j. line_leaves (day_of c day) (choice_of c clearing) z j l) i)

  line_gives_lem : SumsGained (line_gives c day clearing l) sums₀ sums₁
  unfolding line_of
  line_gives_lem = sum_rents c.periods (rent_at (day_of c day) (prices_of c clearing) (choice_of c clearing) l) k.all.sums

module _ {c : Counts} {day clearing : List ℕ} where
  pub no_line : {flows : List ℤ} {sums : Sums} → LinesSoFar c day clearing 0 flows flows sums sums
  unfolding sum
  no_line = record { within = omega arith; sure = none_below; flows = none_gathered; sums = no_gain }

  module _ {n : ℕ} {flows₀ flows₁ : List ℤ} {sums₀ sums₁ : Sums} (p : LinesSoFar c day clearing n flows₀ flows₁ sums₀ sums₁) where
    pub lines_counted : c.lines ≤ n → LinesCounted c day clearing flows₀ flows₁ sums₀ sums₁
    lines_counted m =
        let q : LinesSoFar c day clearing c.lines flows₀ flows₁ sums₀ sums₁ = rw (le_antisymm p.within m) at p in
        record { sure = q.sure.each; flows = q.flows.gained; sums = q.sums }

    module _ (a : LinesAsk c day clearing flows₀ sums₀) (m : n < c.lines) where
      leaves_within : (l : ℕ) → l < n → (z h : ℕ) → z < c.zones → h < c.periods →
          nat_abs (line_leaves (day_of c day) (choice_of c clearing) z h l) ≤ 2000000
      leaves_within l i z h _ j =
          net_flow_size (line_of c day l).from (line_of c day l).to z (flow_of c clearing l h) (flow_small ((p.sure.each l i).flow_is h j))

      gives_within : (l : ℕ) → l < n → SumsWithin 50000000000000 (line_gives c day clearing l)
      unfolding line_of
      gives_within l i =
          let rents = rent_at (day_of c day) (prices_of c clearing) (choice_of c clearing) l in
          let s = p.sure.each l i in
          let ends = line_of c day l in
          let none = nothing_within 50000000000000 in
          record {
            buyers = none.buyers;
            sellers = none.sellers;
            rent = sum_within c.periods most_periods rents 2000000000000 a.framed.of_clearing.limits.periods_most
                (λ h j. rent_small (flow_of c clearing l h) (prices_of c clearing ends.from h) (prices_of c clearing ends.to h)
                (flow_small (s.flow_is h j)) (a.prices ends.from h s.row.from_is j) (a.prices ends.to h s.row.to_is j));
            traded = none.traded;
            shortfall = none.shortfall;
          }

      few_lines : n ≤ most_lines
      few_lines = le_trans p.within a.framed.of_clearing.limits.lines_most

      module _ {part : List ℕ} {at : ℕ} (q : part ≡ lines_part day) (e : at ≡ row_start Lines c.periods n) where
        pub line_asks : at < 4294967296 → LineAsks c clearing part at n flows₁ sums₁
        line_asks starts = record {
          of_clearing = a.framed.of_clearing;
          prices = a.prices;
          line_is = m;
          starts = starts;
          ends = line_within a.framed.of_day q m e;
          flows_room = gathered_room p.flows a.flows_room few_lines leaves_within (omega arith);
          sums_room = within_more (within_gain p.sums a.sums_room (all_within n most_lines 50000000000000 _ few_lines gives_within)) (omega arith);
        }

        pub next_line : {flows₂ : List ℤ} {sums₂ : Sums} → LineCounted c clearing part at n flows₁ flows₂ sums₁ sums₂ →
            LinesSoFar c day clearing (n + 1) flows₀ flows₂ sums₀ sums₂
        next_line k =
            let t : LineCounted c clearing (lines_part day) (row_start Lines c.periods n) n flows₁ _ sums₁ _ = rw (q, e) at k in
            record {
              within = omega arith;
              sure = more_below p.sure (sure_line day t);
              flows = more_gathered p.flows (line_leaves_lem day t);
              sums = gained_next n (line_gives c day clearing) p.sums (line_gives_lem day t);
            }
