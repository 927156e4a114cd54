-- `command::reading::size` ends. Assumes nothing.
use Rattle.command.proofs.reading.size.Given as goal

abbrev pub invariant-loop-turns : goal.invariant-loop-turns
invariant-loop-turns l = Unit {0}

abbrev pub decreases-loop-turns : goal.decreases-loop-turns
decreases-loop-turns l = l.turns
