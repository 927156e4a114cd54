-- `summing::low_of` meets its contract. Assumes nothing.
use Rattle.totals.proofs.Highs.{units-low}
use Rattle.totals.proofs.summing.low_of.Goals as goal

pub returns : goal.returns
returns c = let s = c.args.s in units-low s.top s.mid s.low c.args.count
