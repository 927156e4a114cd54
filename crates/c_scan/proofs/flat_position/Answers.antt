-- `flat_position` meets its contract. Assumes nothing.
use mathlib.Core.Path.{refl}
use Rattle.loftsplice.specs.Scan.{says_position}
use Rattle.c_scan.specs.Scan.{flat_position}
use Rattle.c_forms.proofs.Carried.{carried}
use Rattle.c_scan.proofs.flat_position.Goals as goal

pub returns-in-Index : goal.returns-in-Index
returns-in-Index c = carried says_position flat_position refl c.in-Index.is

pub returns-in-None : goal.returns-in-None
returns-in-None c = carried says_position flat_position refl c.in-None.is

pub returns-in-Refused : goal.returns-in-Refused
returns-in-Refused c = rw c.number.ensures (carried says_position flat_position refl c.in-Refused.is)
