-- `run_at` meets its contract: by the window, or by searches. Assumes nothing.
use native.Mathlib.Omega.{arith}
use Rattle.importing.proofs.single.run_at.Goals as goal

pub returns-then-count-at : goal.returns-then-count-at
returns-then-count-at c = c.run_from.ensures

pub quick-run-requires : goal.quick-run-requires
quick-run-requires c = (c.if-count-at.false, c.requires.1, c.requires.2)

pub returns-then-run-ne0 : goal.returns-then-run-ne0
returns-then-run-ne0 c = c.quick-run.ensures (omega (arith, c.if-run-ne0.true))

pub returns : goal.returns
returns c = c.run_from-2.ensures
