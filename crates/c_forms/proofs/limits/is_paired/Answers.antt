-- `limits::is_paired` meets its contract. Assumes nothing.
use borrow.Author.Tests.{eq-eqb, ne_eqb}
use Rattle.c_forms.specs.Limits.{paired}
use Rattle.c_forms.proofs.limits.is_paired.Goals as goal

pub returns-then-count-numbers : goal.returns-then-count-numbers
unfolding paired
returns-then-count-numbers c = rw (eq-eqb _ _ c.if-count-numbers.true) c.all_between.ensures

pub returns-else-count-numbers : goal.returns-else-count-numbers
unfolding paired
returns-else-count-numbers c = rw (ne_eqb _ _ c.if-count-numbers.false)
