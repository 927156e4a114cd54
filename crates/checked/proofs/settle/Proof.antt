-- `checked::settle` meets its contract. Assumes nothing.
use Rattle.std.proofs.Common.{◌≡◌, true, sym, ◌∙◌, rules}
use borrow.Author.Tests.{not-true, not-false}
use Rattle.meaning.specs.Column.{ends_ok}
use Rattle.checked.proofs.settle.Statement.{statement}
use Rattle.checked.proofs.settle.Tie as tie

-- the ends passed
ended : (c : tie.Else-not-check_ends) →
    let at-plainly = c.before.before.before in let s = at-plainly.before.before in ends_ok s.args.ends.now ≡ true
ended c = sym c.before.check_ends.ensures ∙ not-false c.before.check_ends.result c.if-not-check_ends.false-raw

plainly-requires : tie.Need-plainly-requires
plainly-requires c κs = search rules

returns : tie.Need-returns-then-plainly
returns c =
    let p = c.before.plainly.ensures c.if-plainly.true in
    rw (p.0, p.1)

check-ends-requires : tie.Need-check_ends-requires
check-ends-requires c κs = search rules

returns-2 : tie.Need-returns-then-not-check_ends
returns-2 c = rw (sym c.before.check_ends.ensures, not-true c.before.check_ends.result c.if-not-check_ends.true-raw)

check-reach-requires : tie.Need-check_reach-requires
check-reach-requires c κs =
    let at-plainly = c.before.before.before in
    (at-plainly.before.before.requires, ended c)

returns-3 : tie.Need-returns-then-check_reach
returns-3 c = rw (ended c.before.before, sym c.before.check_reach.ensures, c.if-check_reach.true)

returns-4 : tie.Need-returns-else-check_reach
returns-4 c = rw (ended c.before.before, sym c.before.check_reach.ensures, c.if-check_reach.false)

pub settle_spec : {M : Type 1} → statement M
settle_spec = tie.close (tie.spec plainly-requires returns check-ends-requires returns-2 check-reach-requires returns-3 returns-4)
