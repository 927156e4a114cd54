-- `flat_read` meets its contract. Assumes nothing.
use mathlib.Core.Path.{refl}
use Rattle.record.specs.Says.{says_read}
use Rattle.c_record.specs.Stored.{flat_read}
use Rattle.c_forms.proofs.Carried.{carried}
use Rattle.c_record.proofs.flat_read.Goals as goal

pub returns-in-Runs : goal.returns-in-Runs
returns-in-Runs c = carried says_read flat_read refl c.in-Runs.is

pub returns-in-Refused : goal.returns-in-Refused
returns-in-Refused c = rw c.number.ensures (carried says_read flat_read refl c.in-Refused.is)
