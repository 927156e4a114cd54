-- `examples_listings::listing::numbers` reads within its slice, and ends. Assumes nothing.
use Prim.Native.Nat.{◌-◌, ◌≤◌}
use lib.ListN.{length}
use Rattle.examples_listings.proofs.listing.numbers.Given as goal

abbrev pub invariant-loop-i : goal.invariant-loop-i
invariant-loop-i l = l.i ≤ length l.counts

abbrev pub decreases-loop-i : goal.decreases-loop-i
decreases-loop-i l = length l.counts - l.i
