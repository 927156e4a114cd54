-- `asking::opening::read_full` ends, within the buffer: each turn reads a byte at least. Assumes nothing.
use Rattle.std.proofs.Common.{length, ◌-◌, ◌≤◌}
use Rattle.asking.proofs.opening.read_full.Given as goal

abbrev pub invariant-loop-done : goal.invariant-loop-done
invariant-loop-done l = l.done ≤ length l.buf

abbrev pub decreases-loop-done : goal.decreases-loop-done
decreases-loop-done l = length l.initial.buf - l.done
