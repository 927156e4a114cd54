-- `telling::printing::put_text` writes within the buffer. Assumes nothing.
use Prim.Native.Nat.{◌-◌, ◌≤◌}
use Rattle.telling.proofs.printing.put_text.Given as goal

abbrev pub invariant-loop-i : goal.invariant-loop-i
invariant-loop-i l = l.i ≤ 32

abbrev pub decreases-loop-i : goal.decreases-loop-i
decreases-loop-i l = 32 - l.i
