-- `auditing::picture::strips` ends. Assumes nothing.
use Prim.Native.Nat.{◌-◌, ◌≤◌}
use Rattle.auditing.proofs.picture.strips.Given as goal

abbrev pub invariant-loop-x : goal.invariant-loop-x
invariant-loop-x l = l.x ≤ l.all

abbrev pub decreases-loop-x : goal.decreases-loop-x
decreases-loop-x l = l.all - l.x
