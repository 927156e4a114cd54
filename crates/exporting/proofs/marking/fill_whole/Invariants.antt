use Prim.Native.Nat.{◌*◌, ◌-◌, ◌≤◌}
use Rattle.exporting.specs.Inner.{in_span, Marked}
use Rattle.exporting.proofs.marking.fill_whole.Given as goal

abbrev pub invariant-loop-j : goal.invariant-loop-j
invariant-loop-j l = (l.from ≤ l.j) × (l.j ≤ l.to) × Marked l.initial.bytes l.bytes (in_span (8 * l.from) (8 * l.j))

abbrev pub decreases-loop-j : goal.decreases-loop-j
decreases-loop-j l = l.to - l.j
