-- `words::lines::number_in` lends a part that is there. Assumes nothing.
use native.Mathlib.Omega.{arith}
use lib.ListN.{length-take}
use Rattle.words.proofs.lines.number_in.Goals as goal

pub slice_bounds-read_signed-length : goal.slice_bounds-read_signed-length
slice_bounds-read_signed-length c = simp length-take (omega arith)
