-- `limits::input_at` meets its contract. Assumes nothing.
use borrow.Author.Tests.{eq-eqb, ne_eqb}
use lib.ListN.{get_or-eq_default}
use mir.Syntax.{w64}
use Rattle.keys.proofs.Bits.{back}
use Rattle.c_forms.proofs.limits.input_at.Goals as goal

pub returns-then-found-i : goal.returns-then-found-i
returns-then-found-i c = rw (get_or-eq_default c.args.found.now 0 {n = c.args.i} c.if-found-i.true)

pub returns-then-found-i-eq1 : goal.returns-then-found-i-eq1
returns-then-found-i-eq1 c = rw (eq-eqb _ _ c.if-found-i-eq1.true, back w64 _ c.value_at-value.type_inv, c.value_at-value.ensures)

pub returns : goal.returns
returns c = rw (ne_eqb _ _ c.if-found-i-eq1.false)
