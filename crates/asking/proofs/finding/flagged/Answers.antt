-- `asking::finding::flagged` lends parts that are there. Assumes nothing.
use Rattle.std.proofs.Common.{arith, length-take}
use Rattle.asking.proofs.finding.flagged.Goals as goal

pub slice_bounds-carried-end : goal.slice_bounds-carried-end
slice_bounds-carried-end c = simp length-take (omega arith)
