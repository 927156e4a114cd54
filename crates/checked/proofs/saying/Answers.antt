-- `checked::saying` meets its contract. Assumes nothing.
use Rattle.std.proofs.Common.{ne_eqb}
use Rattle.checked.proofs.saying.Goals as goal

pub returns-then-number-eq2 : goal.returns-then-number-eq2
returns-then-number-eq2 c = rw c.if-number-eq2.true

pub returns-then-number-eq0 : goal.returns-then-number-eq0
returns-then-number-eq0 c = rw c.if-number-eq0.true

pub returns-else-number-eq0 : goal.returns-else-number-eq0
returns-else-number-eq0 c =
    let s = c.before.before in
    rw (ne_eqb s.args.number 2 c.if-number-eq2.false, ne_eqb s.args.number 0 c.if-number-eq0.false)
