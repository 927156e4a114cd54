-- `flat_written` meets its contract. Assumes nothing.
use mathlib.Core.Path.{refl}
use Rattle.record.specs.Says.{says_written}
use Rattle.c_record.specs.Stored.{flat_written}
use Rattle.c_forms.proofs.Carried.{carried}
use Rattle.c_record.proofs.flat_written.Goals as goal

pub returns-in-Bytes : goal.returns-in-Bytes
returns-in-Bytes c = carried says_written flat_written refl c.in-Bytes.is

pub returns-in-Refused : goal.returns-in-Refused
returns-in-Refused c = rw c.number.ensures (carried says_written flat_written refl c.in-Refused.is)
