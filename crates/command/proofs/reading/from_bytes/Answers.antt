-- `command::reading::from_bytes` lends parts that are there, and answers only where the record has all bytes. Assumes nothing.
use Rattle.std.proofs.Common.{arith, length-take}
use Rattle.command.proofs.reading.from_bytes.Goals as goal

pub slice_bounds-from_column-end : goal.slice_bounds-from_column-end
slice_bounds-from_column-end c = simp length-take (omega arith)

pub slice_bounds-from_column-end-in-Runs : goal.slice_bounds-from_column-end-in-Runs
slice_bounds-from_column-end-in-Runs c = simp length-take (omega arith)

pub slice_bounds-from_column-end-in-Runs-2 : goal.slice_bounds-from_column-end-in-Runs-2
slice_bounds-from_column-end-in-Runs-2 c = simp length-take (omega arith)
