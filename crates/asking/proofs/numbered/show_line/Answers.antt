-- `asking::numbered::show_line` lends a part that is there. Assumes nothing.
use Rattle.std.proofs.Common.{arith, length-take}
use Rattle.asking.proofs.numbered.show_line.Goals as goal

pub slice_bounds-line-end : goal.slice_bounds-line-end
slice_bounds-line-end c = simp length-take (omega arith)
