-- `keys::is_down` meets its contract. Assumes nothing.
use Rattle.keys.proofs.Bits.{sign}
use Rattle.keys.proofs.is_down.Goals as goal

pub returns : goal.returns
returns c = sign c.ranges.x
