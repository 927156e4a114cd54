-- `scans::carried_of` meets its contract. Assumes nothing.
use mathlib.Core.Path.{ap}
use borrow.Author.Tests.{eq-eqb, ne_eqb}
use mir.Facts.{to_z-of_z}
use Rattle.loftsplice.specs.declared.scan.Carried.TheVariants.{Value}
use Rattle.c_forms.proofs.scans.carried_of.Goals as goal

pub returns-then-found-eq1 : goal.returns-then-found-eq1
returns-then-found-eq1 c = rw (eq-eqb _ _ c.if-found-eq1.true) (ap Value (to_z-of_z c.ranges.value))

pub returns-else-found-eq1 : goal.returns-else-found-eq1
returns-else-found-eq1 c = rw (ne_eqb _ _ c.if-found-eq1.false)
