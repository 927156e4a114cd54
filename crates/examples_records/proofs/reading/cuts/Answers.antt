-- `examples_records::reading::cuts` ends, and lends parts that are there. Assumes nothing.
use native.Mathlib.Omega.{arith}
use lib.ListN.{length-take}
use Rattle.examples_records.proofs.reading.cuts.Goals as goal

pub slice_bounds-reading-end : goal.slice_bounds-reading-end
slice_bounds-reading-end c = simp length-take (omega arith)
