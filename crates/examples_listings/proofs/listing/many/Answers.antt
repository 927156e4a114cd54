-- `examples_listings::listing::many` lends parts that are there. Assumes nothing.
use native.Mathlib.Omega.{arith}
use lib.ListN.{length-take}
use Rattle.examples_listings.proofs.listing.many.Goals as goal

pub slice_bounds-into-end : goal.slice_bounds-into-end
slice_bounds-into-end c = simp length-take (omega arith)

pub slice_bounds-into-end-2 : goal.slice_bounds-into-end-2
slice_bounds-into-end-2 c = simp length-take (omega arith)

pub slice_bounds-into-end-4 : goal.slice_bounds-into-end-4
slice_bounds-into-end-4 c = simp length-take (omega arith)
