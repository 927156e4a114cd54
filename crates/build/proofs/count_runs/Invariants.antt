use Rattle.std.proofs.Common.{◌≡◌, ◌+◌, ◌-◌, ◌≤◌, length, drop}
use Rattle.build.specs.Rule.{runs_of}
use Rattle.build.proofs.count_runs.Given as goal

abbrev pub invariant-loop-i : goal.invariant-loop-i
invariant-loop-i l = (l.n ≤ 4097) × (l.i ≤ length l.values) × (length (runs_of l.values) ≡ l.n + length (runs_of (drop l.i l.values)))

abbrev pub decreases-loop-i : goal.decreases-loop-i
decreases-loop-i l = length l.values - l.i
