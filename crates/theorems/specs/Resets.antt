-- Calls on a filter one after the other, resets among them: the filter that they leave, and its initial state. Assumes nothing.
use Rattle.std.specs.Prelude.{List, [], ◌∷◌}
use Rattle.meaning.specs.Sequence.{Source}
use Rattle.filter_interval.specs.declared.Filter.{Filter}
use Rattle.bounds.specs.declared.Bound.{Bound}
use Rattle.bounds.specs.declared.Mode.{Mode}
use Rattle.filter_interval.specs.Filter.{new_filter}
use Rattle.theorems.specs.Table.{FilterAct, filter_act}

-- next and seek, reset and current, in any order
unfoldable pub filter_left : Source → List FilterAct → Filter → Filter
filter_left p [] f = f
filter_left p (a ∷ more) f = filter_left p more (filter_act p a f).filter

-- "initial state (i.e. after calling new)": a new filter of the same mode and bounds, on the scan as it stands
abbrev pub initial : Filter → Mode → List Bound → List Bound → Filter
initial f mode lows ups = new_filter f.scan mode lows ups
