-- `telling::printing::values` writes within the buffer. Assumes nothing.
use Prim.Native.Nat.{◌-◌, ◌*◌, ◌≤◌}
use Rattle.telling.proofs.printing.values.Given as goal

abbrev pub invariant-loop-i : goal.invariant-loop-i
invariant-loop-i l = (l.i ≤ 2048) × (l.at ≤ 23 * l.i)

abbrev pub decreases-loop-i : goal.decreases-loop-i
decreases-loop-i l = 2048 - l.i
