-- `examples_columns::run_only::counted` writes within its array. Assumes nothing.
use mathlib.Core.Path.{◌≡◌}
use Prim.Native.Nat.{◌-◌, ◌≤◌}
use lib.ListN.{length}
use Rattle.examples_columns.proofs.run_only.counted.Given as goal

abbrev pub invariant-loop-i : goal.invariant-loop-i
invariant-loop-i l = (l.i ≤ 4097) × (length l.ends ≡ 4097)

abbrev pub decreases-loop-i : goal.decreases-loop-i
decreases-loop-i l = 4097 - l.i
