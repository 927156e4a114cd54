-- `limits::variables_of` meets its contract. The loop's invariant: the places passed are filled. Assumes nothing.

use mathlib.Core.Path.{refl}
use native.Mathlib.Omega.{arith}
use Rattle.c_forms.proofs.Lists.{filling-start, filling-more, filling-all}
use Rattle.c_forms.proofs.limits.variables_of.Goals as goal

pub loop-i-init : goal.loop-i-init
loop-i-init c = filling-start _ _ _ refl

pub loop-i-preserved : goal.loop-i-preserved
loop-i-preserved c =
    let at = c.loop-i in
    filling-more _ _ _ at.items at.i _ at.invariant c.loop-i-test.true (rw (c.named_at-input.ensures, c.boundary_at-boundary.ensures))

pub returns : goal.returns
returns c = rw (filling-all _ _ _ c.loop-i.items c.loop-i.i c.loop-i.invariant (omega arith))
