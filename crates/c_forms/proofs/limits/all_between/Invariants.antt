use Prim.Native.Nat.{◌-◌, ◌≤◌}
use mathlib.Core.Path.{◌≡◌}
use lib.ListN.{length, drop}
use Rattle.ranges.specs.Ranges.{every}
use Rattle.c_forms.specs.Limits.{between}
use Rattle.c_forms.proofs.limits.all_between.Given as goal

abbrev pub invariant-loop-i : goal.invariant-loop-i
invariant-loop-i l = (l.i ≤ length l.numbers) × (every (between l.low l.high) (drop l.i l.numbers) ≡ every (between l.low l.high) l.numbers)

abbrev pub decreases-loop-i : goal.decreases-loop-i
decreases-loop-i l = length l.numbers - l.i
