-- `examples_columns::run_only::column` ends. Assumes nothing.
use Prim.Native.Nat.{◌-◌, ◌≤◌}
use Rattle.examples_columns.proofs.run_only.column.Given as goal

abbrev pub invariant-loop-i : goal.invariant-loop-i
invariant-loop-i l = l.i ≤ l.upto

abbrev pub decreases-loop-i : goal.decreases-loop-i
decreases-loop-i l = l.upto - l.i
