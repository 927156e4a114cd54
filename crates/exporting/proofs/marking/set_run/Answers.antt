-- `marking::set_run` meets its contract: a span where the step is 1. Assumes nothing.
use Prim.Native.Nat.{◌*◌}
use native.Mathlib.Omega.{arith}
use lib.ListN.{length}
use Rattle.exporting.proofs.Spans.{mark-run, one-run}
use Rattle.exporting.proofs.marking.set_run.Goals as goal

pub overflow_add-start : goal.overflow_add-start
overflow_add-start c = record { fits = omega (arith, one-run c.args.start c.args.step c.args.n 524288 (omega arith) (omega arith)) }

pub set_span-requires : goal.set_span-requires
set_span-requires c = (omega arith, one-run c.args.start c.args.step c.args.n (8 * length c.args.bytes.now) (omega arith) (omega arith))

pub returns-then-step-eq1 : goal.returns-then-step-eq1
returns-then-step-eq1 c =
    mark-run c.args.start c.args.step c.args.n (omega arith) c.set_span.ensures
