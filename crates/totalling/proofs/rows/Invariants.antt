-- `totalling::rows` ends, and reads within the lists. Assumes nothing.
use Prim.Native.Nat.{◌-◌, ◌≤◌}
use Rattle.totalling.proofs.rows.Given as goal

abbrev pub invariant-loop-i : goal.invariant-loop-i
invariant-loop-i l = l.i ≤ 256

abbrev pub decreases-loop-i : goal.decreases-loop-i
decreases-loop-i l = 256 - l.i
