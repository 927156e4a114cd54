-- `record::reading::check_runs` meets its contract. The loop's invariant: the runs below i are right in 2, and `reach` says whether they are in 3. Assumes nothing.
use native.Mathlib.Omega.{arith}
use mir.Syntax.{w16, w64}
use Rattle.keys.proofs.Bits.{back}
use Rattle.codec.proofs.Columns.{passed_none, passed-empty, passed-far, passed-more, passed-fine, passed-reach}
use Rattle.record.proofs.reading.check_runs.Goals as goal

pub loop-i-init : goal.loop-i-init
loop-i-init c = passed_none c.args.bytes.now c.args.n

pub returns-then-count-eq0 : goal.returns-then-count-eq0
returns-then-count-eq0 c =
    let l = c.loop-i in
    passed-empty c.args.bytes.now c.args.n l.i l.total l.reach l.invariant c.loop-i-test.true c.run_in-run.result.count c.run_in-run.ensures.count_value c.requires.0 c.if-count-eq0.true

pub overflow_add-total : goal.overflow_add-total
overflow_add-total c = omega (arith, c.loop-i.invariant.most)

pub returns-then-total-gt4294967295 : goal.returns-then-total-gt4294967295
returns-then-total-gt4294967295 c =
    let l = c.loop-i in
    passed-far c.args.bytes.now c.args.n l.i l.total l.reach l.invariant c.loop-i-test.true c.run_in-run.result.count c.run_in-run.ensures.count_value c.requires.0 c.if-total-gt4294967295.true

pub loop-i-preserved : goal.loop-i-preserved
loop-i-preserved c =
    let l = c.loop-i in
    passed-more c.args.bytes.now c.args.n l.i l.total l.reach l.invariant c.loop-i-test.true c.run_in-run.result.count c.run_in-run.ensures.count_value
    c.run_in-run.result.start c.run_in-run.result.step c.reaches-reach.result c.if-count-eq0.false c.if-total-gt4294967295.false c.run_in-run.ensures.start_value c.run_in-run.ensures.step_value
    (rw (back w64 c.run_in-run.result.start c.struct_told-1.given.0.1, back w16 c.run_in-run.result.step c.struct_told-in-loop-i-1.given.1.0.1) at c.reaches-reach.ensures)

pub returns-then-reach : goal.returns-then-reach
returns-then-reach c =
    let l = c.loop-i in
    passed-fine c.args.bytes.now c.args.n c.requires.0 l.i l.total l.reach l.invariant c.loop-i-test.false c.if-reach.true

pub returns-else-reach : goal.returns-else-reach
returns-else-reach c =
    let l = c.loop-i in
    passed-reach c.args.bytes.now c.args.n c.requires.0 l.i l.total l.reach l.invariant c.loop-i-test.false c.if-reach.false
