-- `told` meets its contract: the one or the other. Assumes nothing.
use mathlib.Core.Path.{sym, ap}
use Rattle.meaning.specs.Refusals.{Gives}
use Rattle.profiles.proofs.told.Goals as goal

pub returns-then-yes : goal.returns-then-yes
returns-then-yes c = ap Gives (sym c.if-yes.true)

pub returns : goal.returns
returns c = ap Gives (sym c.if-yes.false)
