-- `telling::printing::put_digits` writes within the buffer. Assumes nothing.
use Prim.Native.Nat.{◌-◌, ◌≤◌}
use Rattle.telling.proofs.printing.put_digits.Given as goal

abbrev pub invariant-loop-i : goal.invariant-loop-i
invariant-loop-i l = l.i ≤ 20

abbrev pub decreases-loop-i : goal.decreases-loop-i
decreases-loop-i l = 20 - l.i
