-- `summing::has_high` meets its contract. Assumes nothing.
use mathlib.Core.Path.{sym, ap, ◌∙◌}
use native.Mathlib.Omega.{arith}
use lib.Dec.{ltb}
use Prim.Native.Nat.{◌-◌}
use Rattle.totals.proofs.Highs.{units-below, units-tell}
use Rattle.totals.proofs.summing.has_high.Goals as goal

pub returns-then-all-count : goal.returns-then-all-count
returns-then-all-count c = let s = c.args in
    sym (units-below s.s.top s.s.mid s.s.low s.count (omega (arith, c.units-all.ensures)))

pub returns : goal.returns
returns c = let s = c.args in
    ap (λ u. ltb (u - s.count) 8589934592) c.units-all.ensures ∙ units-tell s.s.top s.s.mid s.s.low s.count (omega (arith, c.units-all.ensures))
