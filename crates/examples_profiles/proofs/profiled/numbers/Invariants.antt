-- `profiled::numbers` ends, and reads within its array. Assumes nothing.
use Prim.Native.Nat.{◌-◌, ◌≤◌}
use Rattle.examples_profiles.proofs.profiled.numbers.Given as goal

abbrev pub invariant-loop-i : goal.invariant-loop-i
invariant-loop-i l = l.i ≤ 16

abbrev pub decreases-loop-i : goal.decreases-loop-i
decreases-loop-i l = 16 - l.i
