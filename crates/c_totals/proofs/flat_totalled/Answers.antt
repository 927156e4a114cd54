-- `flat_totalled` meets its contract: each case. Assumes nothing.
use mathlib.Core.Path.{refl, ◌∙◌}
use Rattle.totals.specs.Says.{says_totalled}
use Rattle.c_totals.specs.Totals.{flat_totalled}
use Rattle.c_forms.proofs.Carried.{carried}
use Rattle.c_totals.proofs.flat_totalled.Goals as goal

pub returns-in-All : goal.returns-in-All
returns-in-All c = c.flat_total.ensures ∙ carried says_totalled flat_totalled refl c.in-All.is

pub returns-in-Refused : goal.returns-in-Refused
returns-in-Refused c = rw c.number.ensures (carried says_totalled flat_totalled refl c.in-Refused.is)
