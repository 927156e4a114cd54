use Prim.Native.Nat.{◌-◌}
use Rattle.meaning.proofs.Runs.{Bracket}
use Rattle.totals.proofs.walking.run_of.Given as goal

abbrev pub invariant-loop-lo : goal.invariant-loop-lo
invariant-loop-lo l = Bracket l.ends l.index l.lo l.hi

abbrev pub decreases-loop-lo : goal.decreases-loop-lo
decreases-loop-lo l = l.hi - l.lo
