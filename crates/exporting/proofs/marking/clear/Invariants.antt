use Prim.Native.Nat.{◌-◌, ◌≤◌}
use mathlib.Core.Path.{◌≡◌}
use mathlib.Core.List.{◌++◌}
use lib.ListN.{length, replicate, drop}
use Rattle.exporting.proofs.marking.clear.Given as goal

abbrev pub invariant-loop-j : goal.invariant-loop-j
invariant-loop-j l = (l.j ≤ length l.initial.bytes) × (length l.bytes ≡ length l.initial.bytes) × (l.bytes ≡ replicate l.j 0 ++ drop l.j l.initial.bytes)

abbrev pub decreases-loop-j : goal.decreases-loop-j
decreases-loop-j l = length l.initial.bytes - l.j
