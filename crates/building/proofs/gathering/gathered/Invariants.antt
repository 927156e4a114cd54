-- `building::gathering::gathered` ends. Assumes nothing.
use Rattle.std.proofs.Common.{◌≡◌, length}
use Rattle.building.proofs.gathering.gathered.Given as goal

abbrev pub invariant-loop-turns : goal.invariant-loop-turns
invariant-loop-turns l = length l.values ≡ length l.initial.values

abbrev pub decreases-loop-turns : goal.decreases-loop-turns
decreases-loop-turns l = l.turns
