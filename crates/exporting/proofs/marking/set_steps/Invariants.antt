use Prim.Native.Nat.{◌+◌, ◌*◌, ◌-◌, ◌≤◌}
use mathlib.Core.Path.{◌≡◌}
use Rattle.recorded.specs.Inner.{in_steps}
use Rattle.exporting.specs.Inner.{Marked}
use Rattle.exporting.proofs.marking.set_steps.Given as goal

abbrev pub invariant-loop-k : goal.invariant-loop-k
invariant-loop-k l = (l.k ≤ l.n) × (l.at ≡ l.start + l.step * l.k) × Marked l.initial.bytes l.bytes (in_steps l.start l.step l.k)

abbrev pub decreases-loop-k : goal.decreases-loop-k
decreases-loop-k l = l.n - l.k
