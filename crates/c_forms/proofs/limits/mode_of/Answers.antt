-- `limits::mode_of` meets its contract. Assumes nothing.
use borrow.Author.Tests.{eq-eqb, ne_eqb}
use Rattle.c_forms.proofs.limits.mode_of.Goals as goal

pub returns-then-number-eq2 : goal.returns-then-number-eq2
returns-then-number-eq2 c = rw (eq-eqb _ _ c.if-number-eq2.true)

pub returns-else-number-eq2 : goal.returns-else-number-eq2
returns-else-number-eq2 c = rw (ne_eqb _ _ c.if-number-eq2.false)
