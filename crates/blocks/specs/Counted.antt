-- A block that has passed its tests is sure, and what was gathered of it is counted; how large what it gives is. Assumes nothing.
use Rattle.std.specs.Prelude.{ℕ, zero, suc, ◌+◌, ◌≤◌, ◌<◌, ◌≡◌, refl, Bool, true, false, ◌||◌, List, ℤ, pos, nat_abs, ◌-ℤ◌, eqb}
use Rattle.std.proofs.Common.{le_trans, le_refl, eq-or-lt_of_le, arith, ◌∙◌, ⊎_elim, subst}
use Rattle.std.proofs.Math.Path.{sym}
use Rattle.whole.specs.Whole.{sum, above_zero}
use Rattle.whole.specs.Ring.{given, linear, le_z_true}
use Rattle.whole.proofs.Sums.{sum_next}
use Rattle.whole.proofs.Size.{abs_le, abs--, above_zero_size, sum_within}
use Rattle.stages.specs.First.{eqb_is}
use Rattle.cells.specs.Gains.{nothing, SumsWithin, SumsGained, all_within, within_more, no_gain, gained_next, within_gained as within_gain}
use Rattle.cells.specs.declared.Sums.{Sums}
use Rattle.cells.specs.Cells.{Within, nothing_gained, gained_then, gained_same, within_gained}
use Rattle.limits.specs.Limits.{most_periods, most_blocks, most_price, most_volume, most_ratio}
use Rattle.market.specs.Market.{block_volume, whole_surplus, missed}
use Rattle.market.specs.Rules.{test, ratio_ok, whole_ok, block_ok}
use Rattle.market.proofs.RuleLaws.{rejected_never_refused}
use Rattle.market.specs.Measures.{block_measured}
use Rattle.market.proofs.MeasureLaws.{measured_size, whole_is, left_is}
use Rattle.market.specs.declared.Side.{Side}
use Rattle.market.specs.declared.Side.TheVariants.{Sell, Buy}
use Rattle.market.specs.declared.Block.{Block}
use Rattle.market.specs.declared.Measure.{Measure}
use Rattle.market.specs.declared.Measure.TheVariants.{Buyers, Sellers, Traded, Surplus, Net}
use Rattle.rows.specs.Rows.{row_start, block_quantity}
use Rattle.rows.specs.Sentences.{BlockRow}
use Rattle.rows.specs.declared.Kind.TheVariants.{Blocks}
use Rattle.day.specs.declared.Counts.{Counts}
use Rattle.day.specs.Day.{blocks_part}
use Rattle.book.specs.Book.{day_of, prices_of, choice_of, block_at, block_of, quantity_of, ratio_of}
use Rattle.book.specs.Framed.{PricesSmall}
use Rattle.blocks.specs.Sure.{SureBlock, block_brings, block_gives, BlockCounted, CountedTo}
use Rattle.blocks.specs.Block.{HeadRow, WalkedTo, surplus_by, shared, part_of, Accepted}
use Rattle.blocks.specs.Gather.{volume_most}
use Rattle.blocks.specs.Laws.{sellers_is, buyers_is, traded_is, net_is, whole_surplus_is, accepted_is, none_accepted, none_volumes, nothing_brought}

-- quantities that are not 0 together have one above 0
some_above : (n : ℕ) (quantity : ℕ → ℕ) → ¬ (sum n (λ h. pos (quantity h)) ≡ pos 0) → (h : ℕ) × ((h < n) × (0 < quantity h))
unfolding sum
some_above zero quantity some = absurd (some refl)
some_above (suc n) quantity some =
    ⊎_elim
    (λ (e : 0 ≡ quantity n). let s = some_above n quantity (λ z. some (rw (z, ← e))) in (s.0, (omega (arith, s.1.0), s.1.1)))
    (λ (l : 0 < quantity n). (n, (omega arith, l)))
    (eq-or-lt_of_le (omega arith))

or_true : (a : Bool) {b : Bool} → b ≡ true → (a || b) ≡ true
or_true true e = refl
or_true false e = e

none_shared : (side : Side) (x : ℤ) →
    record (shared side (pos 0) (pos 0)) { shortfall = above_zero (x -ℤ pos 0) } ≡ record nothing { shortfall = above_zero x }
none_shared side x =
    let e : x -ℤ pos 0 ≡ x = simp linear (omega arith) in
    rw e (by side)
  where
    by : (side : Side) → record (shared side (pos 0) (pos 0)) { shortfall = above_zero x } ≡ record nothing { shortfall = above_zero x }
    by Sell = refl
    by Buy = refl

module _ (c : Counts) (day clearing : List ℕ) (k : ℕ) where
  abbrev start : ℕ
  start = row_start Blocks c.periods k

  -- ---- what a block gives is small

  module _ (row : BlockRow c.periods c.zones (blocks_part day) start) (prices : PricesSmall c clearing) (few : c.periods ≤ most_periods) where
    block_small : (ratio : ℕ) → ratio ≤ most_ratio → (m : Measure) → nat_abs (block_measured (day_of c day) (prices_of c clearing) m k ratio) ≤ 50000000000000
    unfolding block_measured block_of quantity_of
    block_small ratio most m = sum_within c.periods most_periods _ 2000000000000 few (λ h l. measured_size m _ _ (record {
      limit_small = (abs_le _ most_price).1 (row.price_is.low, row.price_is.high);
      price_small = prices _ h row.zone_is l;
      volume_small = volume_most most (row.quantity_is h l);
    }))

    pub whole_small : nat_abs (whole_surplus (day_of c day) (prices_of c clearing) k) ≤ 50000000000000
    whole_small = rw (whole_is (day_of c day) (prices_of c clearing) k) at (block_small most_ratio (le_refl most_ratio) Surplus)

  module _ (s : SureBlock c day clearing k) (prices : PricesSmall c clearing) (few : c.periods ≤ most_periods) where
    small : (m : Measure) → nat_abs (block_measured (day_of c day) (prices_of c clearing) m k ((choice_of c clearing).ratio k)) ≤ 50000000000000
    small = block_small s.row prices few ((choice_of c clearing).ratio k) s.ratio_is

    pub brings_small : (z h : ℕ) → nat_abs (block_brings c day clearing k z h) ≤ 50000000000000
    brings_small z h = small (Net z h)

    missed_small : nat_abs (missed (day_of c day) (prices_of c clearing) (choice_of c clearing) k) ≤ 100000000000000
    missed_small =
        let d = day_of c day in
        let p = prices_of c clearing in
        let ch = choice_of c clearing in
        rw (left_is d p ch k)
        (omega (
          arith,
          above_zero_size (whole_surplus d p k -ℤ block_measured d p Surplus k (ch.ratio k)),
          abs-- (whole_surplus d p k) (block_measured d p Surplus k (ch.ratio k)),
          whole_small s.row prices few,
          small Surplus,
        ))

    pub gives_small : SumsWithin 100000000000000 (block_gives c day clearing k)
    gives_small = record {
      buyers = le_trans (small Buyers) (omega arith);
      sellers = le_trans (small Sellers) (omega arith);
      rent = omega arith;
      traded = le_trans (small Traded) (omega arith);
      shortfall = missed_small;
    }

  -- ---- its row, as it was read

  pub record RowRead (part : List ℕ) (at : ℕ) (b : Block) (ratio : ℕ) : Type 0 where
    pub part_is : part ≡ blocks_part day
    pub at_is : at ≡ start
    pub block_is : b ≡ block_at part at
    pub ratio_read : ratio ≡ ratio_of clearing k

  module _ {part : List ℕ} {at : ℕ} {b : Block} {ratio : ℕ} (r : RowRead part at b ratio) where
    -- what holds of the row in the file holds of what was read
    read_as : (P : List ℕ → ℕ → Block → ℕ → Type 0) → P (blocks_part day) start (block_at (blocks_part day) start) (ratio_of clearing k) → P part at b ratio
    read_as P x = rw (r.block_is, r.part_is, r.at_is, r.ratio_read) x

  -- ---- the tests before the surplus

  pub record Tested (all worth bits : ℕ) : Type 0 where
    pub head : HeadRow c.zones (blocks_part day) start
    pub ratio_is : ratio_of clearing k ≤ most_ratio
    pub ratio_ok : ratio_ok (block_at (blocks_part day) start).least (ratio_of clearing k) ≡ true
    pub walked : WalkedTo (block_quantity (blocks_part day) start) (prices_of c clearing (block_at (blocks_part day) start).zone) c.periods all worth bits
    pub bits_small : bits ≤ most_volume
    pub some : 0 < all

  module _ {all worth bits : ℕ} (t : Tested all worth bits) where
    pub tested_row : BlockRow c.periods c.zones (blocks_part day) start
    tested_row =
        let s = some_above c.periods (block_quantity (blocks_part day) start)
        (λ z. absurd (given (t.walked.all_is ∙ z) (given t.some (simp linear (omega arith))))) in
        record {
          zone_is = t.head.zone_is;
          side_is = t.head.side_is;
          least_is = t.head.least_is;
          price_is = t.head.price_is;
          quantity_is = λ h l. le_trans (t.walked.bits_above h l) t.bits_small;
          some_period = s.0;
          some_below = s.1.0;
          some_above = s.1.1;
        }

    abbrev pub surplus : ℤ
    surplus = let b = block_at (blocks_part day) start in surplus_by b.side b.limit all worth

    pub surplus_is : whole_surplus (day_of c day) (prices_of c clearing) k ≡ surplus
    unfolding block_of quantity_of
    surplus_is = whole_surplus_is (day_of c day) (prices_of c clearing) (choice_of c clearing) k all worth t.walked.all_is t.walked.worth_is

    sure : ((h : ℕ) → h < c.periods → whole_ok (ratio_of clearing k) (block_quantity (blocks_part day) start h) ≡ true) →
        block_ok (ratio_of clearing k) surplus ≡ true → SureBlock c day clearing k
    unfolding test block_of quantity_of
    sure whole pays = record {
      row = tested_row;
      ratio_is = t.ratio_is;
      ratio = t.ratio_ok;
      whole = whole;
      block = rw surplus_is pays;
    }

    -- what it gives, by the surplus and the volumes of what is accepted
    gives_is : (accepted : ℤ) → block_measured (day_of c day) (prices_of c clearing) Surplus k (ratio_of clearing k) ≡ accepted →
        block_gives c day clearing k
        ≡ record (shared (block_at (blocks_part day) start).side accepted
        (sum c.periods (λ h. pos (block_volume (ratio_of clearing k) (block_quantity (blocks_part day) start h))))) {
          shortfall = above_zero (surplus -ℤ accepted);
        }
    unfolding block_of quantity_of
    gives_is accepted e =
        let d = day_of c day in
        let p = prices_of c clearing in
        let r = ratio_of clearing k in
        rw (buyers_is d p k r, sellers_is d p k r, traded_is d p k r, left_is d p (choice_of c clearing) k, surplus_is, e)

    volumes_none : ratio_of clearing k ≡ 0 → sum c.periods (λ h. pos (block_volume (ratio_of clearing k) (block_quantity (blocks_part day) start h))) ≡ pos 0
    unfolding quantity_of
    volumes_none = none_volumes (day_of c day) (prices_of c clearing) (choice_of c clearing) k

    -- rejected, it only misses
    pub rejected : {nets : List ℤ} {sums₀ sums₁ : Sums} → ratio_of clearing k ≡ 0 → SumsGained (record nothing { shortfall = above_zero surplus }) sums₀ sums₁ →
        BlockCounted c day clearing k nets nets sums₀ sums₁
    rejected {sums₀ = sums₀} {sums₁} none g =
        let d = day_of c day in
        let p = prices_of c clearing in
        let ch = choice_of c clearing in
        record {
          sure = sure (λ h _. rw none (rejected_never_refused 0 (block_quantity (blocks_part day) start h) surplus).1.0)
              (rw none (rejected_never_refused 0 0 surplus).1.1);
          nets = gained_same nothing_gained (λ z h _ _. sym (nothing_brought d p ch k none z h));
          sums = subst (λ (x : Sums). SumsGained x sums₀ sums₁)
              (sym (gives_is (pos 0) (none_accepted d p ch k none) ∙ rw (volumes_none none) (none_shared (block_at (blocks_part day) start).side surplus))) g;
        }

    -- accepted, at a ratio that makes its volumes whole
    pub accepted : {nets₀ nets₁ : List ℤ} {sums₀ sums₁ : Sums} →
        Accepted c.zones c.periods (block_at (blocks_part day) start).zone (block_at (blocks_part day) start).side (ratio_of clearing k)
        (block_quantity (blocks_part day) start) surplus nets₀ nets₁ sums₀ sums₁ → BlockCounted c day clearing k nets₀ nets₁ sums₀ sums₁
    unfolding block_of quantity_of
    accepted {sums₀ = sums₀} {sums₁} a =
        let d = day_of c day in
        let p = prices_of c clearing in
        let ch = choice_of c clearing in
        record {
          sure = sure a.whole (or_true (eqb (ratio_of clearing k) 0) ((le_z_true (pos 0) surplus).1 a.gains));
          nets = gained_same a.nets (λ z h _ _. sym (net_is d p k (ratio_of clearing k) z h));
          sums = subst (λ (x : Sums). SumsGained x sums₀ sums₁) (sym (gives_is (part_of surplus (ratio_of clearing k))
              (rw surplus_is at (accepted_is d p ch k (λ h l. (eqb_is _ 0).0 (a.whole h l)) (rw surplus_is a.gains))))) a.sums;
        }

  -- ---- the same of what was read

  module _ {part : List ℕ} {at : ℕ} {b : Block} {ratio all worth bits : ℕ} (r : RowRead part at b ratio) where
    pub tested : HeadRow c.zones part at → ratio ≤ most_ratio → ratio_ok b.least ratio ≡ true →
        WalkedTo (block_quantity part at) (prices_of c clearing b.zone) c.periods all worth bits → bits ≤ most_volume → 0 < all → Tested all worth bits
    tested =
        read_as r (λ part at b ratio. HeadRow c.zones part at → ratio ≤ most_ratio → ratio_ok b.least ratio ≡ true →
        WalkedTo (block_quantity part at) (prices_of c clearing b.zone) c.periods all worth bits → bits ≤ most_volume → 0 < all → Tested all worth bits)
        (λ head most ok walked small some. record { head = head; ratio_is = most; ratio_ok = ok; walked = walked; bits_small = small; some = some })

    module _ (t : Tested all worth bits) where
      pub surplus_small : PricesSmall c clearing → c.periods ≤ most_periods → nat_abs (surplus_by b.side b.limit all worth) ≤ 50000000000000
      surplus_small prices few =
          read_as r (λ _ _ b _. nat_abs (surplus_by b.side b.limit all worth) ≤ 50000000000000)
          (rw (surplus_is t) at (whole_small (tested_row t) prices few))

      pub rejected_read : {nets : List ℤ} {sums₀ sums₁ : Sums} → ratio ≡ 0 →
          SumsGained (record nothing { shortfall = above_zero (surplus_by b.side b.limit all worth) }) sums₀ sums₁ →
          BlockCounted c day clearing k nets nets sums₀ sums₁
      rejected_read {nets} {sums₀} {sums₁} =
          read_as r (λ _ _ b ratio. ratio ≡ 0 → SumsGained (record nothing { shortfall = above_zero (surplus_by b.side b.limit all worth) }) sums₀ sums₁ →
          BlockCounted c day clearing k nets nets sums₀ sums₁) (rejected t)

      pub accepted_read : {nets₀ nets₁ : List ℤ} {sums₀ sums₁ : Sums} →
          Accepted c.zones c.periods b.zone b.side ratio (block_quantity part at) (surplus_by b.side b.limit all worth)
          nets₀ nets₁ sums₀ sums₁ →
          BlockCounted c day clearing k nets₀ nets₁ sums₀ sums₁
      accepted_read {nets₀} {nets₁} {sums₀} {sums₁} =
          read_as r (λ part at b ratio.
          Accepted c.zones c.periods b.zone b.side ratio (block_quantity part at) (surplus_by b.side b.limit all worth)
          nets₀ nets₁ sums₀ sums₁ → BlockCounted c day clearing k nets₀ nets₁ sums₀ sums₁) (accepted t)

-- ---- block by block

module _ {c : Counts} {day clearing : List ℕ} where
  pub none_counted : {nets : List ℤ} {sums : Sums} → CountedTo c day clearing 0 nets nets sums sums
  unfolding sum
  none_counted = record { sure = λ k l. absurd (omega arith); nets = nothing_gained; sums = no_gain }

  module _ {n : ℕ} {nets₀ nets₁ : List ℤ} {sums₀ sums₁ : Sums} (t : CountedTo c day clearing n nets₀ nets₁ sums₀ sums₁) where
    pub more_counted : {nets₂ : List ℤ} {sums₂ : Sums} → BlockCounted c day clearing n nets₁ nets₂ sums₁ sums₂ → CountedTo c day clearing (n + 1) nets₀ nets₂ sums₀ sums₂
    more_counted b = record {
      sure = λ k l. ⊎_elim (λ (e : k ≡ n). rw e b.sure) (λ (m : k < n). t.sure k m) (eq-or-lt_of_le (omega arith));
      nets = gained_same (gained_then t.nets b.nets) (λ z h _ _. sym (sum_next n (λ k. block_brings c day clearing k z h)));
      sums = gained_next n (block_gives c day clearing) t.sums b.sums;
    }

    module _ (many : n ≤ most_blocks) (prices : PricesSmall c clearing) (few : c.periods ≤ most_periods) where
      pub nets_within : Within c.zones c.periods 1000000000000000000 nets₀ → Within c.zones c.periods 2000000000000000000 nets₁
      nets_within w z h l m =
          omega (
            arith,
            within_gained t.nets {bound = 1000000000000000000} {more = 5000000000000000} w
                (λ y i _ _. sum_within n most_blocks (λ k. block_brings c day clearing k y i) 50000000000000 many
                (λ k j. brings_small c day clearing k (t.sure k j) prices few y i)) z h l m,
          )

      pub sums_within : SumsWithin 1000000000000000000 sums₀ → SumsWithin 2000000000000000000 sums₁
      sums_within w =
          within_more
          (within_gain t.sums w (all_within n most_blocks 100000000000000 (block_gives c day clearing) many
          (λ k j. gives_small c day clearing k (t.sure k j) prices few)))
          (omega arith)
