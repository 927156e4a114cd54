-- `shown::places` ends, and reads within its arrays. Assumes nothing.
use Prim.Native.Nat.{◌-◌, ◌≤◌}
use Rattle.shown.proofs.places.Given as goal

abbrev pub invariant-loop-i : goal.invariant-loop-i
invariant-loop-i l = l.i ≤ 3

abbrev pub decreases-loop-i : goal.decreases-loop-i
decreases-loop-i l = 3 - l.i
