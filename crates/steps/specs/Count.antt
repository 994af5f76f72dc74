-- The laws by which a step is counted. Assumes nothing.
use Rattle.std.specs.Prelude.{ℕ, ◌+◌, ◌*◌, ◌<◌, ◌≤◌, ◌≡◌, refl, Bool, true, false, ◌&&◌, List, leb, eqb, ℤ, pos, neg_ℤ, nat_abs, ◌+ℤ◌, ◌-ℤ◌, length, get_or}
use Rattle.std.proofs.Common.{le_trans, eq-or-lt_of_le, le_of_suc-le-suc, add-one, arith, sym, ◌∙◌, ⊎_elim, le-leb}
use Rattle.std.proofs.Math.IntN.{+ℤ_idr}
use Rattle.std.proofs.lemmas.List.{set-get_or}
use Rattle.whole.specs.Whole.{◌≼◌, ◌≺◌, sum, at}
use Rattle.whole.specs.Ring.{given, linear, ring, le_z_true, le_z_false}
use Rattle.whole.proofs.Sums.{sum_next}
use Rattle.whole.proofs.Size.{abs_le, abs--, abs-*-≤, sum_within}
use Rattle.stages.specs.First.{both, eqb_is, leb_is}
use Rattle.cells.specs.Gains.{SumsWithin, all_within, within_more, gained_next, no_gain as no_sum_gained, within_gained as within_gain}
use Rattle.cells.specs.declared.Sums.{Sums}
use Rattle.cells.specs.Cells.{at_neg, Within, Gained, added, nothing_gained, gained_at, gained_then, gained_same, within_gained}
use Rattle.limits.specs.Limits.{most_price, most_volume}
use Rattle.market.specs.Market.{step_trade}
use Rattle.market.specs.Rules.{full_or_none, step_ok, test}
use Rattle.market.specs.Measures.{gain, sold, bought, Small, measured, step_measured}
use Rattle.market.proofs.MeasureLaws.{measured_size}
use Rattle.market.specs.declared.Side.TheVariants.{Sell, Buy}
use Rattle.market.specs.declared.Trade.{Trade}
use Rattle.market.specs.declared.Measure.{Measure}
use Rattle.market.specs.declared.Measure.TheVariants.{Buyers, Sellers, Traded, Net}
use Rattle.rows.specs.Rows.{row_start}
use Rattle.rows.specs.Sentences.{StepRow}
use Rattle.rows.specs.declared.Kind.TheVariants.{Steps}
use Rattle.day.specs.Day.{steps_part}
use Rattle.day.specs.declared.Counts.{Counts}
use Rattle.book.specs.Book.{prices_of, step_of, volume_of}
use Rattle.book.specs.Framed.{Framed, PricesSmall}
use Rattle.steps.specs.Sure.{SureStep, StepCounted, StepsCounted, counted, brings, gives}

-- ---- what is known before the walk, and how much its table and the sums hold at the most

pub record Ready (c : Counts) (day clearing : List ℕ) (bound : ℕ) (nets : List ℤ) (sums : Sums) : Type 0 where
  pub framed : Framed day clearing c
  pub prices : PricesSmall c clearing
  pub nets_within : Within c.zones c.periods bound nets
  pub sums_within : SumsWithin bound sums

-- before the first step, and before any
abbrev pub most : ℕ
most = 1000000000000000000

abbrev pub full : ℕ
full = 2000000000000000000

-- of one cell, and of one step's numbers
pub record Room (cell : ℕ) (nets : List ℤ) (sums : Sums) : Type 0 where
  pub cell_is : cell < length nets
  pub cell_within : nat_abs (get_or nets cell (pos 0)) ≤ full
  pub sums_within : SumsWithin full sums

pub record Near (limit price : ℤ) (quantity : ℕ) : Type 0 where
  pub limit_small : nat_abs limit ≤ most_price
  pub price_small : nat_abs price ≤ most_price
  pub quantity_small : quantity ≤ most_volume

-- ---- what one step changes

pub record SoldAt (limit price : ℤ) (quantity volume cell : ℕ) (nets nets' : List ℤ) (sums sums' : Sums) : Type 0 where
  pub kept : (full_or_none limit price quantity volume && leb volume quantity) ≡ true
  pub nets_is : nets' ≡ added nets cell (pos volume)
  pub sums_is : sums' ≡ record sums { sellers = sums.sellers +ℤ gain price limit volume }

pub record BoughtAt (limit price : ℤ) (quantity volume cell : ℕ) (nets nets' : List ℤ) (sums sums' : Sums) : Type 0 where
  pub kept : (full_or_none price limit quantity volume && leb volume quantity) ≡ true
  pub nets_is : nets' ≡ added nets cell (neg_ℤ (pos volume))
  pub sums_is : sums' ≡ record sums { buyers = sums.buyers +ℤ gain limit price volume; traded = sums.traded +ℤ pos volume }

-- by the slot of its head: the sells stand first
pub record CountedAt (slot : ℕ) (limit price : ℤ) (quantity volume cell : ℕ) (nets nets' : List ℤ) (sums sums' : Sums) : Type 0 where
  pub sells : slot < 256 → SoldAt limit price quantity volume cell nets nets' sums sums'
  pub buys : 256 ≤ slot → BoughtAt limit price quantity volume cell nets nets' sums sums'

-- ---- each answer of `taken_ok`, as the tests

with_quantity : (a b : Bool) → (a ≡ true → b ≡ true) → (a ≡ (a && b)) × (a ≡ ((a && true) && b))
with_quantity true b h = rw (h refl) (refl, refl)
with_quantity false b h = (refl, refl)

module _ (ask get : ℤ) (quantity volume : ℕ) where
  pub in_full : ask ≺ get → eqb volume quantity ≡ (full_or_none ask get quantity volume && leb volume quantity)
  in_full h =
      rw ((le_z_false get ask).1 h, (le_z_true ask get).1 (given h (simp linear (omega arith))))
      (with_quantity (eqb volume quantity) (leb volume quantity) (λ e. le-leb volume quantity (omega (arith, (eqb_is volume quantity).0 e)))).1

  pub not_at_all : get ≺ ask → eqb volume 0 ≡ (full_or_none ask get quantity volume && leb volume quantity)
  not_at_all h =
      rw ((le_z_true get ask).1 (given h (simp linear (omega arith))), (le_z_false ask get).1 h)
      (with_quantity (eqb volume 0) (leb volume quantity) (λ e. le-leb volume quantity (omega (arith, (eqb_is volume 0).0 e)))).0

  pub at_the_price : get ≼ ask → ask ≼ get → leb volume quantity ≡ (full_or_none ask get quantity volume && leb volume quantity)
  at_the_price h k = rw ((le_z_true get ask).1 h, (le_z_true ask get).1 k)

-- ---- a step that is not taken changes nothing

nothing_added : (table : List ℤ) (k : ℕ) → added table k (pos 0) ≡ table
nothing_added table k = rw (+ℤ_idr (get_or table k (pos 0))) (set-get_or table k (pos 0))

no_gain : (get ask : ℤ) → gain get ask 0 ≡ pos 0
no_gain get ask = simp ring (omega arith)

module _ (limit price : ℤ) (quantity volume cell : ℕ) (nets : List ℤ) (sums : Sums) where
  pub none_sold : price ≺ limit → eqb volume 0 ≡ true → SoldAt limit price quantity volume cell nets nets sums sums
  none_sold h e =
      let none = (eqb_is volume 0).0 e in
      record {
        kept = sym (not_at_all limit price quantity volume h) ∙ e;
        nets_is = rw (none, nothing_added nets cell);
        sums_is = rw (none, no_gain price limit, +ℤ_idr);
      }

  pub none_bought : limit ≺ price → eqb volume 0 ≡ true → BoughtAt limit price quantity volume cell nets nets sums sums
  none_bought h e =
      let none = (eqb_is volume 0).0 e in
      record {
        kept = sym (not_at_all price limit quantity volume h) ∙ e;
        nets_is = rw (none, nothing_added nets cell);
        sums_is = rw (none, no_gain limit price, +ℤ_idr, +ℤ_idr);
      }

-- ---- how large

pub gain_size : (get ask : ℤ) (volume : ℕ) → nat_abs get ≤ most_price → nat_abs ask ≤ most_price → volume ≤ most_volume →
    nat_abs (gain get ask volume) ≤ 2000000000000
gain_size get ask volume g a v = abs-*-≤ (get -ℤ ask) (pos volume) 2000000 1000000 (omega (arith, abs-- get ask)) v

-- ---- a step's row, and its numbers

module _ {c : Counts} {day clearing : List ℕ} (prices : PricesSmall c clearing) {i : ℕ} where
  trade_small : SureStep c day clearing i →
      Small (step_trade (step_of day i) (volume_of clearing i)) (prices_of c clearing (step_of day i).zone (step_of day i).period)
  unfolding step_of test
  trade_small s = record {
    limit_small = (abs_le _ most_price).1 (s.row.price_is.low, s.row.price_is.high);
    price_small = prices _ _ s.row.zone_is s.row.period_is;
    volume_small = omega (arith, (leb_is (volume_of clearing i) (step_of day i).quantity).0 s.quantity, s.row.at_most);
  }

  counted_size : SureStep c day clearing i → (m : Measure) → nat_abs (counted c day clearing m i) ≤ 2000000000000
  unfolding step_measured
  counted_size s m = measured_size m _ _ (trade_small s)

  pub brings_size : SureStep c day clearing i → (zone period : ℕ) → nat_abs (brings c day clearing i zone period) ≤ 2000000000000
  brings_size s zone period = counted_size s (Net zone period)

  pub gives_size : SureStep c day clearing i → SumsWithin 2000000000000 (gives c day clearing i)
  gives_size s = record {
    buyers = counted_size s Buyers;
    sellers = counted_size s Sellers;
    rent = omega arith;
    traded = counted_size s Traded;
    shortfall = omega arith;
  }

-- ---- one step counted

module _ (c : Counts) (day clearing : List ℕ) (i : ℕ) where
  -- the tests by which a step is sure, whatever its side
  sure_step : StepRow c.periods c.zones (steps_part day) (row_start Steps c.periods i) →
      step_ok (step_of day i).side (step_of day i).limit (step_of day i).quantity (prices_of c clearing (step_of day i).zone (step_of day i).period)
      (volume_of clearing i) ≡ true → leb (volume_of clearing i) (step_of day i).quantity ≡ true → SureStep c day clearing i
  unfolding test
  sure_step row step quantity = record { row = row; quantity = quantity; step = step }

  abbrev price : ℤ
  price = prices_of c clearing (step_of day i).zone (step_of day i).period

  abbrev trade : Trade
  trade = step_trade (step_of day i) (volume_of clearing i)

  -- what is counted of it, by its side
  sold_is : (step_of day i).side ≡ Sell → (m : Measure) → counted c day clearing m i ≡ sold m price trade
  unfolding step_measured measured
  sold_is e m = rw e

  bought_is : (step_of day i).side ≡ Buy → (m : Measure) → counted c day clearing m i ≡ bought m price trade
  unfolding step_measured measured
  bought_is e m = rw e

  module _ (row : StepRow c.periods c.zones (steps_part day) (row_start Steps c.periods i)) {nets nets' : List ℤ}
      (inside : (step_of day i).zone * c.periods + (step_of day i).period < length nets) where
    -- x more in its cell
    in_its_cell : (x : ℤ) → nets' ≡ added nets ((step_of day i).zone * c.periods + (step_of day i).period) x →
        Gained c.zones c.periods (λ z h. at (step_of day i).zone (at (step_of day i).period x h) z) nets nets'
    unfolding step_of
    in_its_cell x e =
        rw (← e) at (gained_at {zones = c.zones} {periods = c.periods} {a = nets} (step_of day i).zone (step_of day i).period inside row.period_is x)

    pub sold_counted : {sums sums' : Sums} → (step_of day i).side ≡ Sell →
        SoldAt (step_of day i).limit price (step_of day i).quantity (volume_of clearing i) ((step_of day i).zone * c.periods + (step_of day i).period)
        nets nets' sums sums' →
        StepCounted c day clearing i nets nets' sums sums'
    sold_counted side s =
        let k = (both _ _).0 s.kept in
        record {
          sure = sure_step row (rw side k.0) k.1;
          nets_gain = gained_same (in_its_cell _ s.nets_is) (λ z h _ _. rw (sold_is side (Net z h)));
          sums_gain = record {
            buyers = rw (s.sums_is, sold_is side Buyers) (sym (+ℤ_idr _));
            sellers = rw (s.sums_is, sold_is side Sellers);
            rent = rw s.sums_is (sym (+ℤ_idr _));
            traded = rw (s.sums_is, sold_is side Traded) (sym (+ℤ_idr _));
            shortfall = rw s.sums_is (sym (+ℤ_idr _));
          };
        }

    pub bought_counted : {sums sums' : Sums} → (step_of day i).side ≡ Buy →
        BoughtAt (step_of day i).limit price (step_of day i).quantity (volume_of clearing i) ((step_of day i).zone * c.periods + (step_of day i).period)
        nets nets' sums sums' →
        StepCounted c day clearing i nets nets' sums sums'
    bought_counted side s =
        let k = (both _ _).0 s.kept in
        record {
          sure = sure_step row (rw side k.0) k.1;
          nets_gain = gained_same (in_its_cell _ s.nets_is) (λ z h _ _. rw (bought_is side (Net z h), at_neg, at_neg));
          sums_gain = record {
            buyers = rw (s.sums_is, bought_is side Buyers);
            sellers = rw (s.sums_is, bought_is side Sellers) (sym (+ℤ_idr _));
            rent = rw s.sums_is (sym (+ℤ_idr _));
            traded = rw (s.sums_is, bought_is side Traded);
            shortfall = rw s.sums_is (sym (+ℤ_idr _));
          };
        }

-- ---- the steps one after the other

-- where a step lies, and its numbers, by its row
pub record Lies (c : Counts) (day : List ℕ) (i : ℕ) : Type 0 where
  pub zone : (step_of day i).zone < c.zones
  pub period : (step_of day i).period < c.periods
  pub limit : nat_abs (step_of day i).limit ≤ most_price
  pub quantity : (step_of day i).quantity ≤ most_volume

pub lies : (c : Counts) (day : List ℕ) (i : ℕ) → StepRow c.periods c.zones (steps_part day) (row_start Steps c.periods i) → Lies c day i
unfolding step_of
lies c day i row = record {
  zone = row.zone_is;
  period = row.period_is;
  limit = (abs_le _ most_price).1 (row.price_is.low, row.price_is.high);
  quantity = row.at_most;
}

-- numbers in hand, and what they are
module _ {l l' p p' : ℤ} {q q' k k' : ℕ} (limit : l ≡ l') (price : p ≡ p') (quantity : q ≡ q') (cell : k ≡ k') where
  pub ready_by : {nets : List ℤ} {sums : Sums} → Near l' p' q' × Room k' nets sums → Near l p q × Room k nets sums
  ready_by h = rw (limit, price, quantity, cell) h

  module _ {v v' : ℕ} (volume : v ≡ v') {nets nets' : List ℤ} {sums sums' : Sums} where
    pub counted_by : {slot : ℕ} → CountedAt slot l p q v k nets nets' sums sums' → CountedAt slot l' p' q' v' k' nets nets' sums sums'
    counted_by h = rw (limit, price, quantity, cell, volume) at h

module _ {c : Counts} {day clearing : List ℕ} where
  pub none_counted : {nets : List ℤ} {sums : Sums} → StepsCounted c day clearing 0 nets nets sums sums
  unfolding sum
  none_counted = record {
    sure = λ i l. absurd (omega (arith, l));
    nets_gain = nothing_gained;
    sums_gain = no_sum_gained;
  }

  module _ {n : ℕ} {nets nets' : List ℤ} {sums sums' : Sums} (a : StepsCounted c day clearing n nets nets' sums sums') where
    pub more_counted : {nets'' : List ℤ} {sums'' : Sums} → StepCounted c day clearing n nets' nets'' sums' sums'' →
        StepsCounted c day clearing (n + 1) nets nets'' sums sums''
    more_counted s = record {
      sure = λ i l. ⊎_elim (λ e. rw e s.sure) (λ k. a.sure i k) (eq-or-lt_of_le (le_of_suc-le-suc (rw add-one at l)));
      nets_gain = gained_same (gained_then a.nets_gain s.nets_gain) (λ z h _ _. rw sum_next);
      sums_gain = gained_next n (gives c day clearing) a.sums_gain s.sums_gain;
    }

    -- the tables have room for the next
    pub still_ready : Ready c day clearing most nets sums → n ≤ 2000 → Ready c day clearing full nets' sums'
    still_ready r l = record {
      framed = r.framed;
      prices = r.prices;
      nets_within = λ z h b k.
          le_trans (within_gained a.nets_gain r.nets_within
          (λ z h _ _. sum_within n 2000 (λ i. brings c day clearing i z h) 2000000000000 l (λ i j. brings_size r.prices (a.sure i j) z h)) z h b k)
          (omega arith);
      sums_within =
          within_more
          (within_gain a.sums_gain r.sums_within (all_within n 2000 2000000000000 (gives c day clearing) l (λ i j. gives_size r.prices (a.sure i j))))
          (omega arith);
    }
