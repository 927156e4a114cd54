-- `words::lines::number` lends a part that is there. Assumes nothing.
use native.Mathlib.Omega.{arith}
use lib.ListN.{length-take}
use Rattle.words.proofs.lines.number.Goals as goal

pub slice_bounds-number_in-end : goal.slice_bounds-number_in-end
slice_bounds-number_in-end c = simp length-take (omega arith)
