-- `count_runs` meets its contract. The loop's invariant: n runs, then those of what is left. Assumes nothing.
use Rattle.std.proofs.Common.{arith}
use Rattle.build.proofs.First.{first_some}
use Rattle.build.proofs.Passing.{count-more, count-done}
use Rattle.build.proofs.count_runs.Goals as goal

pub loop-i-init : goal.loop-i-init
loop-i-init c = (omega arith, omega arith, omega arith)

pub returns-then-n-eq4097 : goal.returns-then-n-eq4097
returns-then-n-eq4097 c = let l = c.loop-i in omega (arith, c.if-n-eq4097.true, l.invariant.0, l.invariant.2)

pub loop-i-smaller : goal.loop-i-smaller
loop-i-smaller c =
    omega (arith, c.run_at-run.ensures.end_value, c.run_at-run.ensures.end_in_bounds, c.loop-i-test.true, first_some c.args.values.now c.loop-i.i)

pub loop-i-preserved : goal.loop-i-preserved
loop-i-preserved c =
    let l = c.loop-i in
    let values = c.args.values.now in (
      omega (arith, c.if-n-eq4097.false),
      c.run_at-run.ensures.end_in_bounds,
      count-more values l.n l.i l.invariant.2 c.run_at-run.result.end c.loop-i-test.true c.run_at-run.ensures.end_value,
    )

pub returns : goal.returns
returns c = let l = c.loop-i in omega (arith, l.invariant.0, count-done c.args.values.now l.n l.i l.invariant.2 c.loop-i-test.false)
