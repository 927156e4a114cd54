-- `reporting::held::digits` ends, and reads what is there. Assumes nothing.
use Prim.Native.Nat.{◌-◌, ◌≤◌}
use Rattle.reporting.proofs.held.digits.Given as goal

abbrev pub invariant-loop-i : goal.invariant-loop-i
invariant-loop-i l = l.i ≤ 20

abbrev pub decreases-loop-i : goal.decreases-loop-i
decreases-loop-i l = 20 - l.i
