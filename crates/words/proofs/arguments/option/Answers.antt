-- `words::arguments::option` lends parts that are there. Assumes nothing.
use native.Mathlib.Omega.{arith}
use lib.ListN.{length-take}
use Rattle.words.proofs.arguments.option.Goals as goal

pub slice_bounds-option_of-end : goal.slice_bounds-option_of-end
slice_bounds-option_of-end c = simp length-take (omega (arith, c.equal-end.ensures))
