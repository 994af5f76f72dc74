-- The heads of the rows that a day allows, each in a slot of its own, with the price and the cell of its zone and period; and what a row is whose
-- head stands in one. Assumes nothing.
use Rattle.std.specs.Prelude.{ℕ, ◌+◌, ◌*◌, ◌/◌, ◌<◌, ◌≤◌, ◌≡◌, refl, true, ◌&&◌, List, ℤ, pos, length, get_or, set, replicate}
use Rattle.std.proofs.Common.{eq-or-lt_of_le, arith, sym, ◌∙◌, ⊎_elim, length-set, get_or-set_same, get_or-set_other}
use Rattle.std.proofs.Math.Decide.{ℕ_discrete}
use Rattle.std.proofs.lemmas.List.{length-replicate, get_or-replicate}
use Rattle.wire.specs.Bytes.{u32_at}
use Rattle.limits.specs.Limits.{is_price, is_quantity}
use Rattle.stages.specs.First.{both, leb_is}
use Rattle.whole.specs.Ring.{le_z_true}
use Rattle.rows.specs.Rows.{row_start, step_price, step_quantity}
use Rattle.rows.specs.Sentences.{StepRow}
use Rattle.rows.specs.declared.Kind.TheVariants.{Steps}
use Rattle.day.specs.Day.{steps_part}
use Rattle.day.specs.Good.{InLimits}
use Rattle.day.specs.declared.Counts.{Counts}
use Rattle.cells.specs.declared.Sums.{Sums}
use Rattle.market.specs.declared.Side.TheVariants.{Sell, Buy}
use Rattle.book.specs.Book.{prices_of, step_of, volume_of}
use Rattle.steps.specs.Sure.{StepCounted}
use Rattle.steps.specs.Count.{CountedAt, sold_counted, bought_counted}

-- the sells have the slots below 256, the buys those from there on
pub record Head (c : Counts) (clearing : List ℕ) (slot head : ℕ) (price : ℤ) (place : ℕ) : Type 0 where
  pub zone : ℕ
  pub period : ℕ
  pub side : ℕ
  pub zone_is : zone < c.zones
  pub period_is : period < c.periods
  pub side_is : side ≤ 1
  pub sells : slot < 256 → side ≡ 0
  pub buys : 256 ≤ slot → side ≡ 1
  pub head_is : head ≡ zone + 256 * period + 65536 * side
  pub price_is : price ≡ prices_of c clearing zone period
  pub place_is : place ≡ zone * c.periods + period

-- a slot that holds what four bytes can say holds a head
pub record Known (c : Counts) (clearing heads : List ℕ) (prices : List ℤ) (places : List ℕ) : Type 0 where
  pub heads_long : length heads ≡ 512
  pub prices_long : length prices ≡ 512
  pub places_long : length places ≡ 512
  pub each : (slot : ℕ) → slot < 512 → get_or heads slot 0 < 4294967296 →
      Head c clearing slot (get_or heads slot 0) (get_or prices slot (pos 0)) (get_or places slot 0)

module _ {c : Counts} {clearing : List ℕ} where
  pub nothing_known : {prices : List ℤ} {places : List ℕ} → length prices ≡ 512 → length places ≡ 512 →
      Known c clearing (replicate 512 4294967296) prices places
  nothing_known p q = record {
    heads_long = length-replicate {A = ℕ} 512 4294967296;
    prices_long = p;
    places_long = q;
    each = λ k l b. absurd (omega (arith, get_or-replicate {A = ℕ} 512 k 4294967296 0 l, b));
  }

  -- one head more
  pub more_known : {heads places : List ℕ} {prices : List ℤ} → Known c clearing heads prices places → {slot head place : ℕ} {price : ℤ} → slot < 512 →
      Head c clearing slot head price place → Known c clearing (set heads slot head) (set prices slot price) (set places slot place)
  more_known {heads} {places} {prices} a {slot} {head} {place} {price} l h = record {
    heads_long = length-set heads slot head ∙ a.heads_long;
    prices_long = length-set prices slot price ∙ a.prices_long;
    places_long = length-set places slot place ∙ a.places_long;
    each = λ k j b. by k j b (ℕ_discrete k slot);
  }
    where
      by : (k : ℕ) → k < 512 → get_or (set heads slot head) k 0 < 4294967296 → Dec (k ≡ slot) →
          Head c clearing k (get_or (set heads slot head) k 0) (get_or (set prices slot price) k (pos 0)) (get_or (set places slot place) k 0)
      by k j b (yes e) = rw (
        e,
        get_or-set_same heads slot head 0 (omega (arith, a.heads_long)),
        get_or-set_same prices slot price (pos 0) (omega (arith, a.prices_long)),
        get_or-set_same places slot place 0 (omega (arith, a.places_long)),
      ) h
      by k j b (no e) = rw (get_or-set_other heads slot k head 0 e, get_or-set_other prices slot k price (pos 0) e, get_or-set_other places slot k place 0 e)
          (a.each k j (rw (get_or-set_other heads slot k head 0 e) at b))

  module _ {zone period : ℕ} (z : zone < c.zones) (h : period < c.periods) where
    -- the two heads of a zone and period
    pub sell_head : {slot head place : ℕ} {price : ℤ} → slot < 256 → head ≡ zone + 256 * period → price ≡ prices_of c clearing zone period →
        place ≡ zone * c.periods + period → Head c clearing slot head price place
    sell_head l e p q = record {
      zone = zone;
      period = period;
      side = 0;
      zone_is = z;
      period_is = h;
      side_is = omega arith;
      sells = λ _. refl;
      buys = λ b. absurd (omega (arith, b));
      head_is = omega (arith, e);
      price_is = p;
      place_is = q;
    }

    pub buy_head : {slot head place : ℕ} {price : ℤ} → 256 ≤ slot → head ≡ zone + 256 * period + 65536 → price ≡ prices_of c clearing zone period →
        place ≡ zone * c.periods + period → Head c clearing slot head price place
    buy_head l e p q = record {
      zone = zone;
      period = period;
      side = 1;
      zone_is = z;
      period_is = h;
      side_is = omega arith;
      sells = λ b. absurd (omega (arith, b));
      buys = λ _. refl;
      head_is = omega (arith, e);
      price_is = p;
      place_is = q;
    }

-- ---- a row

pub record FourBytes (part : List ℕ) (at : ℕ) : Type 0 where
  pub first : get_or part at 0 < 256
  pub second : get_or part (at + 1) 0 < 256
  pub third : get_or part (at + 2) 0 < 256
  pub fourth : get_or part (at + 3) 0 < 256

digits : (a b c d zone period side : ℕ) → a < 256 → b < 256 → c < 256 → d < 256 → zone < 256 → period < 256 → side ≤ 1 →
    a + b * 256 + c * 65536 + d * 16777216 ≡ zone + 256 * period + 65536 * side → (a ≡ zone) × ((b ≡ period) × ((c ≡ side) × (d ≡ 0)))
digits a b c d zone period side i j k l m n o e = (omega arith, (omega arith, (omega arith, omega arith)))

-- where a row's head stands in a slot: the row, and what the slot says of it
pub record Placed (c : Counts) (day clearing : List ℕ) (i slot : ℕ) (price : ℤ) (place : ℕ) : Type 0 where
  pub row : StepRow c.periods c.zones (steps_part day) (row_start Steps c.periods i)
  pub sells : slot < 256 → (step_of day i).side ≡ Sell
  pub buys : 256 ≤ slot → (step_of day i).side ≡ Buy
  pub price_is : price ≡ prices_of c clearing (step_of day i).zone (step_of day i).period
  pub place_is : place ≡ (step_of day i).zone * c.periods + (step_of day i).period

pub placed : (c : Counts) (day clearing : List ℕ) (i : ℕ) {slot head place quantity : ℕ} {price limit : ℤ} → InLimits c →
    FourBytes (steps_part day) (2 + 12 * i) →
    head ≡ u32_at (steps_part day) (2 + 12 * i) → Head c clearing slot head price place →
    limit ≡ step_price (steps_part day) (2 + 12 * i) → quantity ≡ step_quantity (steps_part day) (2 + 12 * i) → (is_price limit && is_quantity quantity) ≡ true →
    Placed c day clearing i slot price place
unfolding step_of
placed c day clearing i limits f e h l k t =
    let part = steps_part day in
    let at = 2 + 12 * i in
    let same = sym e ∙ h.head_is in
    let b0 = get_or part at 0 in
    let b1 = get_or part (at + 1) 0 in
    let b2 = get_or part (at + 2) 0 in
    let b3 = get_or part (at + 3) 0 in
    let all = digits b0 b1 b2 b3 h.zone h.period h.side f.first f.second f.third f.fourth (omega (arith, h.zone_is, limits.zones_most))
    (omega (arith, h.period_is, limits.periods_most)) h.side_is same in
    let p = (both (is_price (step_price part at)) (is_quantity (step_quantity part at))).0 (rw (l, k) at t) in
    let q = (both _ _).0 p.1 in
    let r = (both _ _).0 p.0 in
    record {
      row = record {
        zone_is = rw all.0 h.zone_is;
        period_is = rw all.1.0 h.period_is;
        side_is = rw all.1.1.0 h.side_is;
        spare_is = all.1.1.1;
        price_is = record { low = (le_z_true _ _).0 r.0; high = (le_z_true _ _).0 r.1 };
        at_least = (leb_is _ _).0 q.0;
        at_most = (leb_is _ _).0 q.1;
      };
      sells = λ l. rw (all.1.1.0, h.sells l);
      buys = λ l. rw (all.1.1.0, h.buys l);
      price_is = rw (all.0, all.1.0) h.price_is;
      place_is = rw (all.0, all.1.0) h.place_is;
    }

-- counted by its slot, it is counted
pub placed_counted : (c : Counts) (day clearing : List ℕ) (i : ℕ) {slot place : ℕ} {price : ℤ} → Placed c day clearing i slot price place →
    {nets nets' : List ℤ} {sums sums' : Sums} → (step_of day i).zone * c.periods + (step_of day i).period < length nets →
    CountedAt slot (step_of day i).limit (prices_of c clearing (step_of day i).zone (step_of day i).period) (step_of day i).quantity (volume_of clearing i)
    ((step_of day i).zone * c.periods + (step_of day i).period) nets nets' sums sums' → StepCounted c day clearing i nets nets' sums sums'
placed_counted c day clearing i {slot} p inside t =
    ⊎_elim
    (λ (l : 0 ≡ slot / 256). let k : slot < 256 = omega (arith, l) in sold_counted c day clearing i p.row inside (p.sells k) (t.sells k))
    (λ (l : 0 < slot / 256). let k : 256 ≤ slot = omega (arith, l) in bought_counted c day clearing i p.row inside (p.buys k) (t.buys k))
    (eq-or-lt_of_le (omega arith))
