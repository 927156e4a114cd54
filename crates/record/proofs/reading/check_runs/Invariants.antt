use Prim.Native.Nat.{◌-◌}
use Rattle.codec.proofs.Columns.{Passed}
use Rattle.record.proofs.reading.check_runs.Given as goal

abbrev pub invariant-loop-i : goal.invariant-loop-i
invariant-loop-i l = Passed l.bytes l.n l.i l.total l.reach

abbrev pub decreases-loop-i : goal.decreases-loop-i
decreases-loop-i l = l.n - l.i
