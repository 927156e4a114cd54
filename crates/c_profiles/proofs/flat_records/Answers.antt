-- `flat_records` meets its contract: each case. Assumes nothing.
use mathlib.Core.Path.{refl}
use Rattle.profiles.specs.Says.{says_listed}
use Rattle.c_profiles.specs.Profiles.{flat_records}
use Rattle.c_forms.proofs.Carried.{carried}
use Rattle.c_profiles.proofs.flat_records.Goals as goal

pub returns-in-Records : goal.returns-in-Records
returns-in-Records c = carried says_listed flat_records refl c.in-Records.is

pub returns-in-Refused : goal.returns-in-Refused
returns-in-Refused c = rw c.number.ensures (carried says_listed flat_records refl c.in-Refused.is)
