-- `limits::limit_of` meets its contract. Assumes nothing.
use borrow.Author.Tests.{eq-eqb, ne_eqb}
use mir.Syntax.{w64}
use Rattle.keys.proofs.Bits.{back}
use Rattle.c_forms.proofs.limits.limit_of.Goals as goal

pub returns-then-kind-eq0 : goal.returns-then-kind-eq0
returns-then-kind-eq0 c = rw (eq-eqb _ _ c.if-kind-eq0.true)

pub returns : goal.returns
returns c = rw (c.boundary_of-boundary.ensures, ne_eqb _ _ c.if-kind-eq0.false, back w64 _ c.struct_told-1.given.0.1)
