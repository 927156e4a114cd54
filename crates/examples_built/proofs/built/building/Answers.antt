-- `examples_built::built::building` lends parts that are there. Assumes nothing.
use native.Mathlib.Omega.{arith}
use lib.ListN.{length-take}
use Rattle.examples_built.proofs.built.building.Goals as goal

pub slice_bounds-build-end : goal.slice_bounds-build-end
slice_bounds-build-end c = simp length-take (omega arith)

pub slice_bounds-build-end-2 : goal.slice_bounds-build-end-2
slice_bounds-build-end-2 c = simp length-take (omega arith)

pub slice_bounds-build-end-3 : goal.slice_bounds-build-end-3
slice_bounds-build-end-3 c = simp length-take (omega arith)
