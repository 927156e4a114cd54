-- `marking::fill_whole` meets its contract: the bytes below j are all ones. Assumes nothing.
use mathlib.Core.Path.{◌≡◌}
use native.Mathlib.Omega.{arith}
use Rattle.exporting.proofs.Spans.{mark-whole-none, mark-whole-next}
use Rattle.exporting.proofs.marking.fill_whole.Goals as goal

pub loop-j-init : goal.loop-j-init
loop-j-init c = (omega arith, omega arith, mark-whole-none c.args.bytes.now c.args.from)

pub bounds-bytes-j : goal.bounds-bytes-j
bounds-bytes-j c = omega (arith, c.loop-j.invariant.2.long)

pub loop-j-preserved : goal.loop-j-preserved
loop-j-preserved c = (omega arith, omega arith, mark-whole-next c.args.from c.loop-j.j c.loop-j.invariant.0 (omega (arith, c.loop-j.invariant.2.long)) c.loop-j.invariant.2)

pub shape_of-bytes : goal.shape_of-bytes
shape_of-bytes c = c.loop-j.invariant.2.long

pub returns : goal.returns
returns c = let e : c.loop-j.j ≡ c.args.to = omega arith in rw e at c.loop-j.invariant.2
