-- `flat_exported` meets its contract: each case. Assumes nothing.
use mathlib.Core.Path.{refl}
use Rattle.exporting.specs.Says.{says_exported}
use Rattle.c_bitmap.specs.Bitmaps.{flat_exported}
use Rattle.c_forms.proofs.Carried.{carried}
use Rattle.c_bitmap.proofs.flat_exported.Goals as goal

pub returns-in-Bytes : goal.returns-in-Bytes
returns-in-Bytes c = carried says_exported flat_exported refl c.in-Bytes.is

pub returns-in-Refused : goal.returns-in-Refused
returns-in-Refused c = rw c.number.ensures (carried says_exported flat_exported refl c.in-Refused.is)
