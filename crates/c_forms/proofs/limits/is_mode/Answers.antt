-- `limits::is_mode` meets its contract. Assumes nothing.
use borrow.Author.Tests.{le-leb, lt-leb}
use Rattle.c_forms.proofs.limits.is_mode.Goals as goal

pub returns-then-number-lt1 : goal.returns-then-number-lt1
returns-then-number-lt1 c = rw (lt-leb _ _ c.if-number-lt1.true)

pub returns : goal.returns
returns c = rw (le-leb _ _ c.if-number-lt1.false)
