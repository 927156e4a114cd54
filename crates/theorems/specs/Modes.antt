-- The two modes beside each other: which calls read a tie, and a listing in either. Assumes nothing.
use Rattle.std.specs.Prelude.{Bool, true, false, not, ◌&&◌, List, [], ◌∷◌}
use Rattle.meaning.specs.Sequence.{Source}
use Rattle.bounds.specs.declared.Bound.{Bound}
use Rattle.bounds.specs.declared.Mode.{Mode}
use Rattle.filter_interval.specs.declared.FilterState.{FilterState}
use Rattle.filter_interval.specs.declared.FilterState.TheVariants.{Before, Within, After}
use Rattle.filter_interval.specs.declared.Filter.{Filter}
use Rattle.filter_interval.specs.Filter.{Call}
use Rattle.loftsplice.specs.Listing.{Batch}
use Rattle.theorems.specs.Demand3.{all_upper, tied}
use Rattle.theorems.specs.Table.{FilterAct, ask, again, look, filter_act}

-- ups are a filter's constant upper bounds. A call reads a tie if it finds the filter Before, and the least of its upper values is given both ways
abbrev pub reads_tie : List Bound → FilterState → Call → Bool
reads_tie ups Before k = tied (all_upper ups k)
reads_tie ups (Within up) k = false
reads_tie ups After k = false

abbrev pub meets_tie : List Bound → FilterState → FilterAct → Bool
meets_tie ups t (ask k) = reads_tie ups t k
meets_tie ups t again = false
meets_tie ups t look = false

-- "In the absence of a tie": no call of a run reads one
unfoldable pub tieless : Source → List Bound → Filter → List FilterAct → Bool
tieless p ups f [] = true
tieless p ups f (a ∷ more) = not (meets_tie ups f.state a) && tieless p ups (filter_act p a f).filter more

-- a listing as it is but for its mode
abbrev pub listed_in : Mode → Batch → Batch
listed_in mode b =
    record { source = b.source; starts = b.starts; ends = b.ends; mode = mode; lower = b.lower; upper = b.upper; out = b.out; counts = b.counts }
