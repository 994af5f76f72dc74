-- What is gathered of sure rows is what they come to: the net positions, the flows, the totals. Assumes nothing.
use Rattle.std.specs.Prelude.{ℕ, ◌+◌, ◌*◌, ◌<◌, ◌≤◌, ◌≡◌, List, ℤ, pos, nat_abs, ◌+ℤ◌, ◌-ℤ◌, get_or, replicate}
use Rattle.std.proofs.Common.{le_refl, arith, sym, ◌∙◌, SFits}
use Rattle.std.proofs.Math.Nat.{le_trans}
use Rattle.std.proofs.Math.Path.{refl}
use Rattle.std.proofs.Math.IntN.{+ℤ_idl}
use Rattle.std.specs.Int.{w64}
use Rattle.whole.specs.Whole.{sum}
use Rattle.whole.specs.Ring.{linear}
use Rattle.whole.proofs.Sums.{sum_zero}
use Rattle.whole.proofs.Size.{fits_i64, abs_le, abs-+, abs--, abs-*-≤, sum_within}
use Rattle.limits.specs.Limits.{most_flow}
use Rattle.cells.specs.Cells.{Tabled, Within, within_gained, none_tabled, tabled_gained, same_tabled}
use Rattle.cells.specs.Gains.{nothing, SumsWithin, nothing_within, within_more, all_within, gained_then, within_gained as within_gain}
use Rattle.cells.specs.declared.Sums.{Sums}
use Rattle.market.specs.Market as market
use Rattle.market.specs.Market.{Day, Choice, Prices, net_position, leaving, entering, totals, buyer_surplus, seller_surplus, traded_volume, rent_at, missed}
use Rattle.market.specs.Rules.{Balanced}
use Rattle.market.specs.Measures.{priced, block_measured}
use Rattle.market.proofs.MeasureLaws.{rents_size, accepted_is, net_is, net_flow_is, buyers_is, sellers_is, traded_is}
use Rattle.market.proofs.Welfare.{adds_up}
use Rattle.market.specs.declared.Totals.{Totals}
use Rattle.market.specs.declared.Measure.{Measure}
use Rattle.market.specs.declared.Measure.TheVariants.{Buyers, Sellers, Traded, Net}
use Rattle.day.specs.declared.Counts.{Counts}
use Rattle.day.specs.Good.{InLimits, prices_most}
use Rattle.book.specs.Book.{line_of, day_of, prices_of, choice_of, flow_of}
use Rattle.book.specs.Of.{OfFiles, cell_below as cell_in}
use Rattle.book.specs.Ranges.{placed, ranged, accepted_size}
use Rattle.book.specs.Framed.{PricesSmall}
use Rattle.frame.specs.Opened.{Opened}
use Rattle.lines.specs.Sure.{SurePrice, SureLine, LinesCounted, line_gives}
use Rattle.steps.specs.Sure.{SureStep, StepsCounted, counted, brings, gives}
use Rattle.steps.specs.Count.{brings_size, gives_size}
use Rattle.blocks.specs.Sure.{SureBlock, BlocksCounted}
use Rattle.walk.specs.Walked.{Walked}
use Rattle.walk.specs.AllSure.{AllSure, files_are, lawful_but}

-- ---- what is gathered

-- the sums of two files
pub record SumsAre (c : Counts) (day clearing : List ℕ) (sums : Sums) : Type 0 where
  pub buyers_are : sums.buyers ≡ buyer_surplus (day_of c day) (prices_of c clearing) (choice_of c clearing)
  pub sellers_are : sums.sellers ≡ seller_surplus (day_of c day) (prices_of c clearing) (choice_of c clearing)
  pub rent_is : sums.rent ≡ market.rent (day_of c day) (prices_of c clearing) (choice_of c clearing)
  pub traded_are : sums.traded ≡ traded_volume (day_of c day) (choice_of c clearing)
  pub shortfall_is : sums.shortfall ≡ market.shortfall (day_of c day) (prices_of c clearing) (choice_of c clearing)

module _ (c : Counts) (day clearing : List ℕ) where
  abbrev d : Day
  d = day_of c day

  abbrev p : Prices
  p = prices_of c clearing

  abbrev ch : Choice
  ch = choice_of c clearing

  -- lines, steps and blocks, one after the other, from zeros
  module _ {flows n1 n2 f0 n0 : List ℤ} {s0 s1 s2 s3 : Sums} (lines : LinesCounted c day clearing f0 flows s0 s1)
      (steps : StepsCounted c day clearing c.steps n0 n1 s1 s2) (blocks : BlocksCounted c day clearing n1 n2 s2 s3) where
    pub nets_gathered : c.zones * c.periods ≤ 200 → Tabled c.zones c.periods (λ _ _. pos 0) n0 →
        Tabled c.zones c.periods (net_position d ch) n2
    nets_gathered small t =
        same_tabled small (tabled_gained blocks.nets (tabled_gained steps.nets_gain t)) (λ z h _ _.
        rw (+ℤ_idl, ← accepted_is d p ch (Net z h)) (net_is d p ch z h))

    pub flows_gathered : c.zones * c.periods ≤ 200 → Tabled c.zones c.periods (λ _ _. pos 0) f0 →
        Tabled c.zones c.periods (λ z h. leaving d ch z h -ℤ entering d ch z h) flows
    flows_gathered small t = same_tabled small (tabled_gained lines.flows t) (λ z h _ _. rw (+ℤ_idl, net_flow_is d ch z h))

    -- one that lines give nothing to, and steps and blocks what is counted of them
    one_measure : (m : Measure) {before after : ℤ} → before ≡ pos 0 →
        after ≡ before +ℤ (sum c.lines (λ _. pos 0) +ℤ sum c.steps (counted c day clearing m) +ℤ sum c.blocks (λ j. block_measured d p m j (ch.ratio j))) →
        after ≡ market.accepted d ch (priced m p)
    one_measure m zero e = e ∙ rw (zero, sum_zero c.lines (λ _. pos 0) (λ _ _. refl), +ℤ_idl, +ℤ_idl, ← accepted_is d p ch m)

    pub sums_gathered : s0 ≡ nothing → SumsAre c day clearing s3
    unfolding market.rent market.shortfall
    sums_gathered e =
        let g = gained_then (gained_then lines.sums steps.sums_gain) blocks.sums in
        let no_line : sum c.lines (λ _. pos 0) ≡ pos 0 = sum_zero c.lines (λ _. pos 0) (λ _ _. refl) in
        let no_step : sum c.steps (λ _. pos 0) ≡ pos 0 = sum_zero c.steps (λ _. pos 0) (λ _ _. refl) in
        let no_block : sum c.blocks (λ _. pos 0) ≡ pos 0 = sum_zero c.blocks (λ _. pos 0) (λ _ _. refl) in
        record {
          buyers_are = one_measure Buyers (rw e) g.buyers ∙ buyers_is d p ch;
          sellers_are = one_measure Sellers (rw e) g.sellers ∙ sellers_is d p ch;
          rent_is = g.rent ∙ rw (e, no_step, no_block) (simp linear (omega arith));
          traded_are = one_measure Traded (rw e) g.traded ∙ traded_is d p ch;
          shortfall_is = g.shortfall ∙ rw (e, no_line, no_step) (simp linear (omega arith));
        }

-- ---- how much the tables hold on the way

-- from zeros
pub none_within : {c : Counts} → InLimits c → {table : List ℤ} → table ≡ replicate 200 (pos 0) → (bound : ℕ) → Within c.zones c.periods bound table
none_within {c} limits e bound z h l k = rw (e, (none_tabled (prices_most limits)).each z h l k) (omega arith)

pub no_sum_within : {sums : Sums} → sums ≡ nothing → (bound : ℕ) → SumsWithin bound sums
no_sum_within e bound = rw e (nothing_within bound)

module _ {day clearing : List ℕ} {c : Counts} (limits : InLimits c) (prices : PricesSmall c clearing) where
  line_gives_within : {l : ℕ} → SureLine c day clearing l → SumsWithin 50000000000000 (line_gives c day clearing l)
  unfolding line_of
  line_gives_within {l} s =
      let ends = line_of c day l in
      record {
        buyers = omega arith;
        sellers = omega arith;
        rent = sum_within c.periods 25 (rent_at (day_of c day) (prices_of c clearing) (choice_of c clearing) l) 2000000000000 limits.periods_most
            (λ h b.
            let to = prices_of c clearing ends.to h in
            let from = prices_of c clearing ends.from h in
            abs-*-≤ (flow_of c clearing l h) (to -ℤ from) 1000000 2000000 ((abs_le (flow_of c clearing l h) most_flow).1 ((s.flow_is h b).low, (s.flow_is h b).high))
            (omega (arith, abs-- to from, prices ends.to h s.row.to_is b, prices ends.from h s.row.from_is b)));
        traded = omega arith;
        shortfall = omega arith;
      }

  pub lines_within : {f0 f1 : List ℤ} {s0 s1 : Sums} → LinesCounted c day clearing f0 f1 s0 s1 → SumsWithin 0 s0 → SumsWithin 1000000000000000 s1
  lines_within a w =
      within_more
      (within_gain a.sums w (all_within c.lines 16 50000000000000 (line_gives c day clearing) limits.lines_most (λ i m. line_gives_within (a.sure i m))))
      (omega arith)

  module _ {n0 n1 : List ℤ} {s1 s2 : Sums} (a : StepsCounted c day clearing c.steps n0 n1 s1 s2) where
    pub nets_within : Within c.zones c.periods 0 n0 → Within c.zones c.periods 1000000000000000000 n1
    nets_within w z h l j =
        le_trans
        (within_gained a.nets_gain w (λ z h _ _.
        sum_within c.steps 2000 (λ i. brings c day clearing i z h) 2000000000000 limits.steps_most (λ i m. brings_size prices (a.sure i m) z h)) z h l j)
        (omega arith)

    pub sums_within : SumsWithin 1000000000000000 s1 → SumsWithin 1000000000000000000 s2
    sums_within w =
        within_more
        (within_gain a.sums_gain w (all_within c.steps 2000 2000000000000 (gives c day clearing) limits.steps_most (λ i m. gives_size prices (a.sure i m))))
        (omega arith)

-- ---- nothing is broken

-- net positions and flows that are the same in all cells
pub balanced_is : (day clearing : List ℕ) (c : Counts) {nets flows : List ℤ} →
    Tabled c.zones c.periods (net_position (day_of c day) (choice_of c clearing)) nets →
    Tabled c.zones c.periods (λ z h. leaving (day_of c day) (choice_of c clearing) z h -ℤ entering (day_of c day) (choice_of c clearing) z h) flows →
    ((k : ℕ) → k < c.zones * c.periods → get_or nets k (pos 0) ≡ get_or flows k (pos 0)) → Balanced (day_of c day) (choice_of c clearing)
balanced_is day clearing c n f same z h l k = sym (n.each z h l k) ∙ same (z * c.periods + h) (cell_in l k) ∙ f.each z h l k

-- the totals that the sums make
abbrev pub totals_in : Sums → Totals
totals_in sums = record {
  value = sums.buyers +ℤ sums.sellers +ℤ sums.rent;
  buyers = sums.buyers;
  sellers = sums.sellers;
  rent = sums.rent;
  traded = sums.traded;
  shortfall = sums.shortfall;
}

module _ {day clearing : List ℕ} {c : Counts} (o : OfFiles day clearing c) {sums : Sums} (s : SumsAre c day clearing sums) where
  -- they are the files' totals: in a balanced clearing the order value is what buyers, sellers and lines have
  pub totals_made : Balanced (day_of c day) (choice_of c clearing) → totals_in sums ≡ totals (day_of c day) (prices_of c clearing) (choice_of c clearing)
  unfolding totals
  totals_made b =
      rw (
        s.buyers_are,
        s.sellers_are,
        s.rent_is,
        s.traded_are,
        s.shortfall_is,
        adds_up (day_of c day) (prices_of c clearing) (placed o) (choice_of c clearing) b,
      )

  -- and fit
  lines_size : nat_abs (market.rent (day_of c day) (prices_of c clearing) (choice_of c clearing)) ≤ 800000000000000
  unfolding market.rent
  lines_size = rents_size _ _ _ (placed o) (ranged o) c.lines (le_refl c.lines)

  buyers_size : nat_abs sums.buyers ≤ 9000000000000000
  buyers_size = rw (s.buyers_are, ← buyers_is (day_of c day) (prices_of c clearing) (choice_of c clearing)) (accepted_size o Buyers)

  sellers_size : nat_abs sums.sellers ≤ 9000000000000000
  sellers_size = rw (s.sellers_are, ← sellers_is (day_of c day) (prices_of c clearing) (choice_of c clearing)) (accepted_size o Sellers)

  rent_size : nat_abs sums.rent ≤ 800000000000000
  rent_size = rw s.rent_is lines_size

  pub traders_fit : SFits w64 (sums.buyers +ℤ sums.sellers)
  traders_fit = fits_i64 _ (omega (arith, abs-+ sums.buyers sums.sellers, buyers_size, sellers_size))

  pub value_fits : SFits w64 (sums.buyers +ℤ sums.sellers +ℤ sums.rent)
  value_fits =
      fits_i64 _
      (omega (
        arith,
        abs-+ (sums.buyers +ℤ sums.sellers) sums.rent,
        abs-+ sums.buyers sums.sellers,
        buyers_size,
        sellers_size,
        rent_size,
      ))

-- what is known of the rows when they are counted
pub record RowsCounted (c : Counts) (day clearing : List ℕ) (nets : List ℤ) (sums : Sums) : Type 0 where
  pub lines : (l : ℕ) → l < c.lines → SureLine c day clearing l
  pub steps : (i : ℕ) → i < c.steps → SureStep c day clearing i
  pub blocks : (k : ℕ) → k < c.blocks → SureBlock c day clearing k
  pub nets_are : Tabled c.zones c.periods (net_position (day_of c day) (choice_of c clearing)) nets
  pub sums_are : SumsAre c day clearing sums
  pub balanced : Balanced (day_of c day) (choice_of c clearing)

pub rows_counted : (c : Counts) (day clearing : List ℕ) {f0 flows n0 n1 n2 : List ℤ} {s0 s1 s2 s3 : Sums} → InLimits c →
    f0 ≡ replicate 200 (pos 0) → n0 ≡ replicate 200 (pos 0) → s0 ≡ nothing →
    LinesCounted c day clearing f0 flows s0 s1 → StepsCounted c day clearing c.steps n0 n1 s1 s2 → BlocksCounted c day clearing n1 n2 s2 s3 →
    ((k : ℕ) → k < c.zones * c.periods → get_or n2 k (pos 0) ≡ get_or flows k (pos 0)) → RowsCounted c day clearing n2 s3
rows_counted c day clearing limits f n s lines steps blocks same =
    let small = prices_most limits in
    let nets_are = nets_gathered c day clearing lines steps blocks small (rw n (none_tabled small)) in
    record {
      lines = lines.sure;
      steps = steps.sure;
      blocks = blocks.sure;
      nets_are = nets_are;
      sums_are = sums_gathered c day clearing lines steps blocks s;
      balanced = balanced_is day clearing c nets_are (flows_gathered c day clearing lines steps blocks small (rw f (none_tabled small))) same;
    }

pub all_walked : {c : Counts} {day clearing : List ℕ} {nets : List ℤ} {sums : Sums} → Opened day clearing c →
    ((z h : ℕ) → z < c.zones → h < c.periods → SurePrice c day clearing z h) → RowsCounted c day clearing nets sums →
    {t : Totals} → t ≡ totals_in sums → Walked day clearing c t nets
all_walked {c} {day} {clearing} o p r e =
    let a : AllSure day clearing c = record { opened = o; prices = p; lines = r.lines; steps = r.steps; blocks = r.blocks } in
    record {
      of_files = files_are a;
      lawful = lawful_but a r.balanced;
      totals_are = e ∙ totals_made (files_are a) r.sums_are r.balanced;
      nets_are = r.nets_are;
    }
