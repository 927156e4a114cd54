-- `flat_imported` meets its contract: each case. Assumes nothing.
use mathlib.Core.Path.{refl}
use Rattle.importing.specs.Says.{says_imported}
use Rattle.c_bitmap.specs.Bitmaps.{flat_imported}
use Rattle.c_forms.proofs.Carried.{carried}
use Rattle.c_bitmap.proofs.flat_imported.Goals as goal

pub returns-in-Runs : goal.returns-in-Runs
returns-in-Runs c = carried says_imported flat_imported refl c.in-Runs.is

pub returns-in-Refused : goal.returns-in-Refused
returns-in-Refused c = rw c.number.ensures (carried says_imported flat_imported refl c.in-Refused.is)
