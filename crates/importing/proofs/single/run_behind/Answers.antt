-- `run_behind` meets its contract: by what is left of the window, or anew. Assumes nothing.
use Prim.Native.Nat.{◌<◌}
use native.Mathlib.Omega.{arith}
use Rattle.importing.proofs.single.run_behind.Goals as goal

pub returns-then-quickly-ne0 : goal.returns-then-quickly-ne0
returns-then-quickly-ne0 c =
    let some : 0 < c.told-quickly.result.n = omega (arith, c.if-quickly-ne0.true) in
    record {
      first = c.told-quickly.ensures.first some;
      behind = c.told-quickly.ensures.behind some;
    }
