-- `rle::run_of` meets its contract: the search's two ends bracket the run. Assumes nothing.
use Rattle.std.proofs.Common.{arith}
use Rattle.meaning.proofs.Runs.{bracket-start, bracket-up, bracket-met, bracket-lo, run-between}
use Rattle.loftsplice.proofs.rle.run_of.Goals as goal

pub loop-lo-init : goal.loop-lo-init
loop-lo-init c = bracket-start _ _

pub loop-lo-preserved-then-ends-mid : goal.loop-lo-preserved-then-ends-mid
loop-lo-preserved-then-ends-mid c =
    bracket-up c.loop-lo.invariant _ c.requires (omega arith) c.if-ends-mid.true

pub returns-then-lo-hi : goal.returns-then-lo-hi
returns-then-lo-hi c = bracket-met c.loop-lo.invariant c.if-lo-hi.true

pub returns-then-mid-lo : goal.returns-then-mid-lo
returns-then-mid-lo c =
    bracket-lo c.loop-lo.invariant _ c.if-mid-lo.true (omega arith) c.if-ends-mid.false

pub returns-then-ends-mid-2 : goal.returns-then-ends-mid-2
returns-then-ends-mid-2 c =
    run-between _ _ _ c.requires (omega arith) (omega arith) c.if-ends-mid-2.true c.if-ends-mid.false
