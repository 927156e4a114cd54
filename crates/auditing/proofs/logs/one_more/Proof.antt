-- `auditing::logs::one_more` meets its contract. Assumes nothing.
use Prim.Native.Nat.{ℕ}
use mathlib.Core.List.{List}
use native.Mathlib.Omega.{arith}
use Rattle.meaning.specs.Column.{column_of, sequence_of}
use Rattle.auditing.specs.Audit.{logs_of}
use Rattle.auditing.proofs.Following.{range-more, range-one}
use borrow.Author.Rules.{rules}
use Rattle.auditing.proofs.logs.one_more.Statement.{statement}
use Rattle.auditing.proofs.logs.one_more.Tie as tie

-- the window's logs
abbrev all : tie.Start → List ℕ
all s = logs_of s.args.asked (sequence_of (column_of s.args.starts.now s.args.ends.now s.args.steps.now))

-- where it goes on, and where not
abbrev start-on : tie.After-struct_known-1 → tie.Start
start-on c = let g = c.before.before in g.before.before

abbrev start-off : tie.After-put_range-arg-1 → tie.Start
start-off c = let g = c.before.before in g.before.before

goes-on-requires : tie.Need-goes_on-requires
goes-on-requires c κs = search rules

add-on : tie.Need-overflow_add-result
add-on c = omega (arith, (start-on c).requires.1.1.1)

returns : tie.Need-returns-then-goes_on
returns c =
    let s = start-on c in
    let h = c.goes_on.ensures c.if-goes_on.true in
    (range-more (all s) s.args.row s.requires.0 s.args.k s.requires.1.0 s.requires.1.1.0 _ h.0 h.1, omega arith)

put-range-requires : tie.Need-put_range-at-requires
put-range-requires c κs = (start-off c).requires.0

add-off : tie.Need-overflow_add-result-2
add-off c = omega (arith, (start-off c.before.before).requires.1.1.1)

returns-2 : tie.Need-returns
returns-2 c =
    let s = start-off c.before.before in
    (range-one (all s) s.args.row s.requires.0 s.args.k s.requires.1.0 s.requires.1.1.0 _, omega arith)

pub one_more_spec : {M : Type 1} → statement M
one_more_spec = tie.close (tie.spec goes-on-requires add-on returns put-range-requires add-off returns-2)
