-- `Filter::reset` meets its contract: what it hands back is, part by part, what the definition says. Assumes nothing.
use mathlib.Core.Path.{refl}
use Rattle.filter_interval.proofs.Filter.reset.Goals as goal

pub returns : goal.returns
returns c = refl
