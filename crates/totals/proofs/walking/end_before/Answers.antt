-- `walking::end_before` meets its contract. Assumes nothing.
use Rattle.meaning.proofs.Runs.{before-zero, before-is}
use Rattle.totals.proofs.walking.end_before.Goals as goal

pub returns-then-run-eq0 : goal.returns-then-run-eq0
returns-then-run-eq0 c = before-zero _ c.if-run-eq0.true

pub returns-else-run-eq0 : goal.returns-else-run-eq0
returns-else-run-eq0 c = before-is _ c.if-run-eq0.false
