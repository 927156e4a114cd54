-- `summing::nothing` meets its contract. Assumes nothing.
use mathlib.Core.Path.{refl}
use Rattle.totals.proofs.Lists.{holds-nothing}
use Rattle.totals.proofs.summing.nothing.Goals as goal

pub returns : goal.returns
returns c = holds-nothing 0 _ refl refl refl refl refl
