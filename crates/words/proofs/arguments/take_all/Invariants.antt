-- `words::arguments::take_all` ends. Assumes nothing.
use Prim.Native.Nat.{◌-◌, ◌≤◌}
use Rattle.words.proofs.arguments.take_all.Given as goal

abbrev pub invariant-loop-i : goal.invariant-loop-i
invariant-loop-i l = 2 ≤ l.i

abbrev pub decreases-loop-i : goal.decreases-loop-i
decreases-loop-i l = l.count - l.i
