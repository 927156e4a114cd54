-- `telling::printing::flush` lends a part that is there. Assumes nothing.
use native.Mathlib.Omega.{arith}
use lib.ListN.{length-take}
use Rattle.telling.proofs.printing.flush.Goals as goal

pub slice_bounds-text-end : goal.slice_bounds-text-end
slice_bounds-text-end c = simp length-take (omega arith)
