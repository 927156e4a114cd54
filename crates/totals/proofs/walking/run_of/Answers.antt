-- `walking::run_of` meets its contract: the search's two ends bracket the run. Assumes nothing.

use native.Mathlib.Omega.{arith}
use Rattle.meaning.proofs.Runs.{bracket-start, bracket-up, bracket-down, bracket-met}
use Rattle.totals.proofs.walking.run_of.Goals as goal

pub loop-lo-init : goal.loop-lo-init
loop-lo-init c = bracket-start _ _

pub loop-lo-preserved-then-ends-mid : goal.loop-lo-preserved-then-ends-mid
loop-lo-preserved-then-ends-mid c = bracket-up c.loop-lo.invariant _ c.requires (omega arith) c.if-ends-mid.true

pub loop-lo-preserved : goal.loop-lo-preserved
loop-lo-preserved c = bracket-down c.loop-lo.invariant _ (omega (arith, c.loop-lo.invariant.lo-le)) (omega arith) c.if-ends-mid.false

pub returns : goal.returns
returns c = bracket-met c.loop-lo.invariant (omega (arith, c.loop-lo.invariant.lo-le))
