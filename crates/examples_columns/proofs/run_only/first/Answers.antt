-- `examples_columns::run_only::first` lends parts that are there. Assumes nothing.
use native.Mathlib.Omega.{arith}
use lib.ListN.{length-take}
use Rattle.examples_columns.proofs.run_only.first.Goals as goal

pub slice_bounds-check-end : goal.slice_bounds-check-end
slice_bounds-check-end c =
    simp length-take (omega (arith, c.if-n-starts.true))

pub slice_bounds-check-end-then-n-steps : goal.slice_bounds-check-end-then-n-steps
slice_bounds-check-end-then-n-steps c =
    simp length-take (omega (arith, c.if-n-ends.true))

pub slice_bounds-check-end-then-n-steps-2 : goal.slice_bounds-check-end-then-n-steps-2
slice_bounds-check-end-then-n-steps-2 c =
    simp length-take (omega (arith, c.if-n-steps.true))
