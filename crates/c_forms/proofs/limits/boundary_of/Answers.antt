-- `limits::boundary_of` meets its contract. Assumes nothing.
use borrow.Author.Tests.{eq-eqb, ne_eqb}
use Rattle.c_forms.proofs.limits.boundary_of.Goals as goal

pub returns-then-kind-eq2 : goal.returns-then-kind-eq2
returns-then-kind-eq2 c = rw (eq-eqb _ _ c.if-kind-eq2.true)

pub returns-else-kind-eq2 : goal.returns-else-kind-eq2
returns-else-kind-eq2 c = rw (ne_eqb _ _ c.if-kind-eq2.false)
