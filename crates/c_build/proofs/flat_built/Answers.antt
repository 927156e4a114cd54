-- `flat_built` meets its contract. Assumes nothing.
use mathlib.Core.Path.{refl}
use Rattle.build.specs.Says.{says_built}
use Rattle.c_build.specs.Building.{flat_built}
use Rattle.c_forms.proofs.Carried.{carried}
use Rattle.c_build.proofs.flat_built.Goals as goal

pub returns-in-Runs : goal.returns-in-Runs
returns-in-Runs c = carried says_built flat_built refl c.in-Runs.is

pub returns-in-Refused : goal.returns-in-Refused
returns-in-Refused c = rw c.number.ensures (carried says_built flat_built refl c.in-Refused.is)
