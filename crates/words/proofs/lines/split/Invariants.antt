-- `words::lines::split` ends, and has room for each number. Assumes nothing.
use Prim.Native.Nat.{◌-◌, ◌≤◌}
use Rattle.words.proofs.lines.split.Given as goal

abbrev pub invariant-loop-i : goal.invariant-loop-i
invariant-loop-i l = (l.i ≤ 512) × (l.count ≤ l.i)

abbrev pub decreases-loop-i : goal.decreases-loop-i
decreases-loop-i l = 512 - l.i
