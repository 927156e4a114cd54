-- `asking::opening::worded` ends, within the text. Assumes nothing.
use Rattle.std.proofs.Common.{◌-◌, ◌≤◌}
use Rattle.asking.proofs.opening.worded.Given as goal

abbrev pub invariant-loop-i : goal.invariant-loop-i
invariant-loop-i l = (l.i ≤ 256) × (l.words ≤ 256)

abbrev pub decreases-loop-i : goal.decreases-loop-i
decreases-loop-i l = 256 - l.i
