-- `flat_listed` meets its contract. Assumes nothing.
use mathlib.Core.Path.{refl}
use Rattle.loftsplice.specs.Listing.{says_listed}
use Rattle.c_listing.specs.Listing.{flat_listed}
use Rattle.c_forms.proofs.Carried.{carried}
use Rattle.c_listing.proofs.flat_listed.Goals as goal

pub returns-in-Sum : goal.returns-in-Sum
returns-in-Sum c = carried says_listed flat_listed refl c.in-Sum.is

pub returns-in-Refused : goal.returns-in-Refused
returns-in-Refused c = rw c.number.ensures (carried says_listed flat_listed refl c.in-Refused.is)
