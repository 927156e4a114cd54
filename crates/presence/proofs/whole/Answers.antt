-- `whole` meets its contract. Assumes nothing.
use mathlib.Core.Path.{ap}
use Rattle.meaning.proofs.Runs.{before-zero, before-is}
use Rattle.loftsplice.specs.Scan.{fresh}
use Rattle.presence.proofs.whole.Goals as goal

pub returns-then-ends-eq0 : goal.returns-then-ends-eq0
returns-then-ends-eq0 c = ap (fresh 0) (before-zero _ c.if-ends-eq0.true)

pub returns-else-ends-eq0 : goal.returns-else-ends-eq0
returns-else-ends-eq0 c = ap (fresh 0) (before-is _ c.if-ends-eq0.false)
