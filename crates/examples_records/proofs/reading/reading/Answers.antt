-- `examples_records::reading::reading` lends parts that are there. Assumes nothing.
use native.Mathlib.Omega.{arith}
use lib.ListN.{length-take}
use Rattle.examples_records.proofs.reading.reading.Goals as goal

pub slice_bounds-read-end : goal.slice_bounds-read-end
slice_bounds-read-end c = simp length-take (omega arith)

pub slice_bounds-read-end-2 : goal.slice_bounds-read-end-2
slice_bounds-read-end-2 c = simp length-take (omega arith)

pub slice_bounds-read-end-3 : goal.slice_bounds-read-end-3
slice_bounds-read-end-3 c = simp length-take (omega arith)
