-- `calls::is_bare` meets its contract. Assumes nothing.
use native.Mathlib.Omega.{arith}
use mathlib.Core.Bool.{false≢true}
use borrow.Author.Tests.{eqb-true}
use Rattle.c_filter.proofs.calls.is_bare.Goals as goal

pub returns-then-lows-gt0 : goal.returns-then-lows-gt0
returns-then-lows-gt0 c = λ e. absurd (false≢true e)

pub returns : goal.returns
returns c = λ e. (omega (arith, c.if-lows-gt0.false), eqb-true _ 0 e)
