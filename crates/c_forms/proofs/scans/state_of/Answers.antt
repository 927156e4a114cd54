-- `scans::state_of` meets its contract. Assumes nothing.
use borrow.Author.Tests.{eq-eqb, ne_eqb}
use Rattle.c_forms.proofs.scans.state_of.Goals as goal

pub returns-then-number-eq0 : goal.returns-then-number-eq0
returns-then-number-eq0 c = rw (eq-eqb _ _ c.if-number-eq0.true)

pub returns-then-number-eq1 : goal.returns-then-number-eq1
returns-then-number-eq1 c = rw (ne_eqb _ _ c.if-number-eq0.false, eq-eqb _ _ c.if-number-eq1.true)

pub returns-else-number-eq1 : goal.returns-else-number-eq1
returns-else-number-eq1 c = rw (ne_eqb _ _ c.if-number-eq0.false, ne_eqb _ _ c.if-number-eq1.false)
