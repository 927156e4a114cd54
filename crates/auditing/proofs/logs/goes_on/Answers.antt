-- `auditing::logs::goes-on` meets its contract. Assumes nothing.
use Prim.Native.Nat.{◌-◌}
use mathlib.Core.Bool.{false≢true}
use native.Mathlib.Omega.{arith}
use borrow.Author.Tests.{eqb-true}
use Rattle.auditing.proofs.logs.goes_on.Goals as goal

pub returns-then-n-lt1 : goal.returns-then-n-lt1
returns-then-n-lt1 c = λ e. absurd (false≢true e)

pub returns-then-k-last : goal.returns-then-k-last
returns-then-k-last c = λ e. absurd (false≢true e)

pub returns : goal.returns
returns c = let a = c.args in λ e. (omega (arith, c.if-n-lt1.false), omega (arith, eqb-true (a.k - a.last) 1 e, c.if-k-last.false))
