-- `examples_records::stored::sized` lends a part that is there. Assumes nothing.
use native.Mathlib.Omega.{arith}
use lib.ListN.{length-take}
use Rattle.examples_records.proofs.stored.sized.Goals as goal

pub slice_bounds-writing-end : goal.slice_bounds-writing-end
slice_bounds-writing-end c = simp length-take (omega arith)
