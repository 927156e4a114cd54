-- `totalling::answered` lends windows that are there. Assumes nothing.
use native.Mathlib.Omega.{arith}
use lib.ListN.{length-take}
use Rattle.totalling.proofs.answered.Goals as goal

pub slice_bounds-totals-end : goal.slice_bounds-totals-end
slice_bounds-totals-end c = simp length-take (omega arith)

pub slice_bounds-totals-end-2 : goal.slice_bounds-totals-end-2
slice_bounds-totals-end-2 c = simp length-take (omega arith)
