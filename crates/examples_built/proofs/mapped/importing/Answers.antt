-- `examples_built::mapped::importing` lends parts that are there. Assumes nothing.
use native.Mathlib.Omega.{arith}
use lib.ListN.{length-take}
use Rattle.examples_built.proofs.mapped.importing.Goals as goal

pub slice_bounds-exporting-end : goal.slice_bounds-exporting-end
slice_bounds-exporting-end c = simp length-take (omega arith)

pub slice_bounds-exporting-end-then-n-le3 : goal.slice_bounds-exporting-end-then-n-le3
slice_bounds-exporting-end-then-n-le3 c = simp length-take (omega arith)

pub slice_bounds-exporting-end-then-n-le3-2 : goal.slice_bounds-exporting-end-then-n-le3-2
slice_bounds-exporting-end-then-n-le3-2 c = simp length-take (omega arith)
