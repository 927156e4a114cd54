-- `flat_carried` meets its contract: each case. Assumes nothing.
use mathlib.Core.Path.{refl}
use Rattle.profiles.specs.Says.{says_field}
use Rattle.c_profiles.specs.Profiles.{flat_carried}
use Rattle.c_forms.proofs.Carried.{carried}
use Rattle.c_profiles.proofs.flat_carried.Goals as goal

pub returns-in-Yes : goal.returns-in-Yes
returns-in-Yes c = carried says_field flat_carried refl c.in-Yes.is

pub returns-in-No : goal.returns-in-No
returns-in-No c = carried says_field flat_carried refl c.in-No.is

pub returns-in-Refused : goal.returns-in-Refused
returns-in-Refused c = rw c.number.ensures (carried says_field flat_carried refl c.in-Refused.is)
