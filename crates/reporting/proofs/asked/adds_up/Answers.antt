-- `reporting::asked::adds_up` meets its contract. Assumes nothing.
use Prim.Native.Nat.{◌+◌}
use mathlib.Core.Path.{sym}
use native.Mathlib.Omega.{arith}
use borrow.Author.Tests.{ne_eqb}
use Rattle.reporting.proofs.Adding.{add-test}
use Rattle.reporting.proofs.asked.adds_up.Goals as goal

pub returns-then-size-carried : goal.returns-then-size-carried
returns-then-size-carried c = let a = c.args in sym (ne_eqb (a.carried + a.filled) a.size (λ e. omega (arith, c.if-size-carried.true, e)))

pub returns : goal.returns
returns c = let a = c.args in add-test a.carried a.filled a.size c.if-size-carried.false
