-- `summing::join` meets its contract. Assumes nothing.
use mathlib.Core.Path.{refl}
use Rattle.totals.proofs.Lists.{holds-join}
use Rattle.totals.proofs.summing.join.Goals as goal

pub returns : goal.returns
returns c =
    λ xs ys m n h k. holds-join _ c.args.a c.args.b xs ys m n h k refl refl refl c.smaller-least.ensures c.larger-greatest.ensures
