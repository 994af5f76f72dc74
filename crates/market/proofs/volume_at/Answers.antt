-- `market::volume_at` meets its contract. Assumes nothing.
use Rattle.std.proofs.Common.{ℕ, arith, ◌≡◌, refl, ◌∙◌, Bool, true, false, cond, ◌&&◌, eqb, ℤ, pos}
use Rattle.whole.specs.Whole.{at}
use Rattle.whole.proofs.Size.{same}
use Rattle.market.specs.Market.{volume_at}
use Rattle.market.specs.declared.Trade.{Trade}
use Rattle.market.proofs.volume_at.Goals as goal

both-tests : (a b : Bool) (x : ℤ) → cond a (cond b x (pos 0)) (pos 0) ≡ cond (a && b) x (pos 0)
both-tests true b x = refl
both-tests false b x = refl

here : (zone period : ℕ) (t : Trade) (b : Bool) → (eqb zone t.zone && eqb period t.period) ≡ b →
    volume_at zone period t ≡ cond b (pos t.volume) (pos 0)
unfolding at
here zone period t b e = both-tests (eqb zone t.zone) (eqb period t.period) (pos t.volume) ∙ rw e

pub returns-then-zone-trade : goal.returns-then-zone-trade
returns-then-zone-trade c =
    rw (same c.wide.result c.wide.type_inv, c.wide.ensures, here c.args.zone c.args.period c.args.trade true c.if-zone-trade.true)
    (refl, c.requires)

pub returns-else-zone-trade : goal.returns-else-zone-trade
returns-else-zone-trade c =
    rw (here c.args.zone c.args.period c.args.trade false c.if-zone-trade.false) (refl, omega arith)
