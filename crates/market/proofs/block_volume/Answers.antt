-- `market::block_volume` meets its contract. Assumes nothing.
use Rattle.std.proofs.Common.{refl}
use Rattle.market.specs.Market.{block_volume}
use Rattle.market.proofs.block_volume.Goals as goal

pub returns : goal.returns
unfolding block_volume
returns c = refl
