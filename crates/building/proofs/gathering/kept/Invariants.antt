-- `building::gathering::kept` ends, and writes within the list. Assumes nothing.
use Rattle.std.proofs.Common.{◌≡◌, ◌-◌, ◌≤◌, length}
use Rattle.building.proofs.gathering.kept.Given as goal

abbrev pub invariant-loop-i : goal.invariant-loop-i
invariant-loop-i l = (l.i ≤ 512) × (length l.values ≡ length l.initial.values)

abbrev pub decreases-loop-i : goal.decreases-loop-i
decreases-loop-i l = 512 - l.i
