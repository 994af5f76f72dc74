-- The laws that the demands rest on: where every stage is clean, what is read from the statement of two files (its totals and net
-- positions fit their bytes), and what an acceptance leaves in the room. Assumes nothing.
use Rattle.std.specs.Prelude.{ℕ, ◌+◌, ◌*◌, ◌<◌, ◌≤◌, ◌≡◌, ◌↔◌, List, [], ◌∷◌, ◌++◌, ℤ, get_or, length, drop}
use Rattle.std.proofs.Common.{le_refl, arith, sym, ap, subst, ◌∙◌, SFits, leb-true, le-leb}
use Rattle.std.specs.Int.{w32, w64}
use Rattle.whole.proofs.Size.{fits_i64}
use Rattle.stages.specs.Stage.{Means, clean-++, first_fault}
use Rattle.stages.proofs.StageLaws.{means, result_fault, result_good, result_bad}
use Rattle.stages.specs.declared.Place.{Place}
use Rattle.wire.specs.Bytes.{u16_at, i32_at, i64_at, put}
use Rattle.wire.specs.RoundTrip.{put_length}
use Rattle.market.specs.Market.{Day, Prices, Choice, accepted, net_position, order_value, buyer_surplus, seller_surplus, rent, traded_volume}
use Rattle.market.specs.Market.{shortfall, totals}
use Rattle.market.specs.Rules.{Lawful, rule_stages}
use Rattle.market.proofs.RuleLaws.{lawful_is}
use Rattle.market.specs.Measures.{priced}
use Rattle.market.proofs.MeasureLaws.{value_is, buyers_is, sellers_is, traded_is}
use Rattle.market.proofs.MeasureLaws.{rents_size, missed_size}
use Rattle.market.specs.declared.Totals.{Totals}
use Rattle.market.specs.declared.Measure.{Measure}
use Rattle.market.specs.declared.Measure.TheVariants.{Value, Buyers, Sellers, Traded}
use Rattle.day.specs.Day.{counts}
use Rattle.day.specs.Good.{prices_most}
use Rattle.clearing.specs.Clearing.{file_stages}
use Rattle.clearing.specs.Good.{files_clean}
use Rattle.book.specs.Of.{OfFiles, cell_below}
use Rattle.book.specs.Ranges.{accepted_size, placed, ranged}
use Rattle.statement.specs.Laws.{statement_length_lem, stored_is, stays_behind, value_read, buyers_read, sellers_read, rent_read, traded_read}
use Rattle.statement.specs.Laws.{six_read, shortfall_read, count_read, net_read}
use Rattle.statement.specs.Of.{net_count, net_row, cell_row, flow_row_fits, flow_row_is}
use Rattle.verdict.specs.Verdict.{day_of, prices_of, choice_of, totals_of, statement_of, statement_length_of}
use Rattle.verdict.specs.Verdict.{room_stage, stages, verdict, given_totals}
use Rattle.demands.specs.Sentences.{Passes}
use Rattle.std.specs.Prelude.{Ok, Err}
use Rattle.stages.specs.Stage.{clean, fault_of}

-- ---- the stages

module _ (day clearing : List ℕ) (room : ℕ) where
  -- accepted with some totals: no stage has a fault, and the totals are those of the two files
  accepted_is_clean : (t : Totals) →
      (verdict day clearing room ≡ Ok t) ↔ (Means (stages day clearing room) clean × (totals_of day clearing ≡ t))
  accepted_is_clean t =
      let good = totals_of day clearing in
      let ss = stages day clearing room in
      let given = result_good good ss in
      let fault = result_fault good (first_fault ss) in (
        λ e. let m = (means ss clean).0 (sym fault ∙ ap fault_of e) in (m, ap given_totals (sym (given.1 m) ∙ e)),
        λ h. given.1 h.0 ∙ ap Ok h.1,
      )

  -- refused with a number and a place: that is the first fault
  pub refused_is_broken : (k : ℕ) (p : Place) → (verdict day clearing room ≡ Err (k, p)) ↔ Means (stages day clearing room) (Err (k, p))
  refused_is_broken = result_bad (totals_of day clearing) (stages day clearing room)

  room_clean : Means (room_stage day room ∷ []) clean ↔ (statement_length_of day ≤ room)
  room_clean = (
    λ m. leb-true (statement_length_of day) room (m.0 0 0 (omega arith) (omega arith)),
    λ l. (λ z i _ _. le-leb (statement_length_of day) room l, tt),
  )

  -- no stage has a fault just where the files read, the rules hold and the room suffices
  passes_is : Means (stages day clearing room) clean ↔ Passes day clearing room
  passes_is =
      let rules = rule_stages (day_of day) (prices_of day clearing) (choice_of day clearing) in
      let later = clean-++ rules (room_stage day room ∷ []) in
      let all = clean-++ (file_stages day clearing) (rules ++ (room_stage day room ∷ [])) in
      let files = files_clean day clearing in
      let lawful = lawful_is (day_of day) (prices_of day clearing) (choice_of day clearing) in (
        λ m.
            let n = later.0 (all.0 m).1 in
            let g = files.0 (all.0 m).0 in
            record { day_reads = g.0; clearing_reads = g.1; rules_hold = lawful.0 n.0; room_suffices = room_clean.0 n.1 },
        λ h. all.1 (files.1 (h.day_reads, h.clearing_reads), later.1 (lawful.1 h.rules_hold, room_clean.1 h.room_suffices)),
      )

  pub passes_exactly : (t : Totals) → (verdict day clearing room ≡ Ok t) ↔ (Passes day clearing room × (totals_of day clearing ≡ t))
  passes_exactly t =
      let a = accepted_is_clean t in
      (λ e. (passes_is.0 (a.0 e).0, (a.0 e).1), λ h. a.1 (passes_is.1 h.0, h.1))

-- ---- two files that read without fault

module _ {day clearing : List ℕ} (o : OfFiles day clearing (counts day)) where
  abbrev d : Day
  d = day_of day

  abbrev p : Prices
  p = prices_of day clearing

  abbrev c : Choice
  c = choice_of day clearing

  abbrev net : ℕ → ℤ
  net = net_row (counts day) day clearing

  abbrev n : ℕ
  n = net_count (counts day)

  -- a total over all that is accepted fits an i64
  accepted_fits : (m : Measure) {x : ℤ} → accepted d c (priced m p) ≡ x → SFits w64 x
  accepted_fits m is = subst (SFits w64) is (fits_i64 (accepted d c (priced m p)) (omega (arith, accepted_size o m)))

  rent_fits : SFits w64 (rent d p c)
  unfolding rent
  rent_fits = fits_i64 _ (omega (arith, rents_size d p c (placed o) (ranged o) d.lines (le_refl d.lines)))

  shortfall_fits : SFits w64 (shortfall d p c)
  unfolding shortfall
  shortfall_fits = fits_i64 _ (omega (arith, missed_size d p c (placed o) (ranged o) d.blocks (le_refl d.blocks)))

  -- in a lawful clearing a net position is what the lines carry away, which fits an i32
  net_fits : Lawful d p c → (k : ℕ) → k < n → SFits w32 (net k)
  net_fits lawful k l = subst (SFits w32) (flow_row_is o k lawful.balance_rule l) (flow_row_fits o k)

  -- what is read from their statement, whatever bytes follow
  module _ (rest : List ℕ) where
    abbrev bytes : List ℕ
    bytes = statement_of day clearing ++ rest

    pub six_stated : u16_at bytes 0 ≡ 6
    six_stated = six_read (totals d p c) net n rest

    pub value_stated : i64_at bytes 2 ≡ order_value d c
    unfolding totals
    value_stated = value_read (totals d p c) net n rest (accepted_fits Value (value_is d p c))

    pub buyers_stated : i64_at bytes 10 ≡ buyer_surplus d p c
    unfolding totals
    buyers_stated = buyers_read (totals d p c) net n rest (accepted_fits Buyers (buyers_is d p c))

    pub sellers_stated : i64_at bytes 18 ≡ seller_surplus d p c
    unfolding totals
    sellers_stated = sellers_read (totals d p c) net n rest (accepted_fits Sellers (sellers_is d p c))

    pub rent_stated : i64_at bytes 26 ≡ rent d p c
    unfolding totals
    rent_stated = rent_read (totals d p c) net n rest rent_fits

    pub traded_stated : i64_at bytes 34 ≡ traded_volume d c
    unfolding totals
    traded_stated = traded_read (totals d p c) net n rest (accepted_fits Traded (traded_is d p c))

    pub shortfall_stated : i64_at bytes 42 ≡ shortfall d p c
    unfolding totals
    shortfall_stated = shortfall_read (totals d p c) net n rest shortfall_fits

    pub count_stated : u16_at bytes 50 ≡ d.zones * d.periods
    count_stated = count_read (totals d p c) net n rest (omega (arith, prices_most o.of_clearing.limits))

    pub net_stated : Lawful d p c → (zone period : ℕ) → zone < d.zones → period < d.periods →
        i32_at bytes (52 + 4 * (zone * d.periods + period)) ≡ net_position d c zone period
    net_stated lawful zone period a b =
        let k = zone * d.periods + period in
        let l = cell_below a b in
        net_read (totals d p c) net n rest k l (net_fits lawful k l) ∙ cell_row (net_position d c) d.periods zone period b

-- ---- the room after an acceptance

module _ (day clearing room : List ℕ) (l : statement_length_of day ≤ length room) where
  -- the statement put at the front of the room
  put_is : put room 0 (statement_of day clearing) ≡ statement_of day clearing ++ drop (statement_length_of day) room
  put_is = stored_is (totals_of day clearing) (net_row (counts day) day clearing) (net_count (counts day)) room

  pub behind_stays : (i : ℕ) → statement_length_of day ≤ i →
      get_or (statement_of day clearing ++ drop (statement_length_of day) room) i 0 ≡ get_or room i 0
  behind_stays i m =
      subst (λ (s : List ℕ). get_or s i 0 ≡ get_or room i 0) put_is
      (stays_behind (totals_of day clearing) (net_row (counts day) day clearing) (net_count (counts day)) room l i m)

  pub length_stays : length (statement_of day clearing ++ drop (statement_length_of day) room) ≡ length room
  length_stays =
      let e = statement_length_lem (totals_of day clearing) (net_row (counts day) day clearing) (net_count (counts day)) in
      subst (λ (s : List ℕ). length s ≡ length room) put_is (put_length room 0 (statement_of day clearing) (omega (arith, e)))
