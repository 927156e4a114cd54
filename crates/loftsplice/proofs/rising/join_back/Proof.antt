-- `rising::join_back` meets its contract: the walk goes on run by run from where the fours left it. Assumes nothing.
use Rattle.std.proofs.Common.{◌≡◌, ◌-◌, sym, ◌∙◌, arith, rules}
use borrow.Author.Tests.{not-true, not-false}
use Rattle.meaning.specs.Column.{column_of}
use Rattle.meaning.specs.Naming.{column_now}
use Rattle.meaning.proofs.Soundness.{sound-parts}
use Rattle.meaning.proofs.Walk.{joins_whole, whole-stands, whole-joins, Walk, walk-on, walk-off, walk-done}
use Rattle.loftsplice.proofs.rising.join_back.Statement.{statement}
use Rattle.loftsplice.proofs.rising.join_back.Tie as tie

abbrev invariant-loop : tie.invariant-loop-run
invariant-loop starts ends steps start low first last run₀ run = Walk (column_of starts ends steps) low last run

abbrev decreases-loop : tie.decreases-loop-run
decreases-loop starts ends steps start low first last run₀ run = run

abbrev st : tie.At-loop-run invariant-loop decreases-loop → tie.Start invariant-loop decreases-loop
st l = l.before.before.before

join-fours-requires : tie.Need-join_fours-run-requires invariant-loop decreases-loop
join-fours-requires c κs = let s = c.before in (s.requires.0, s.requires.1.0)

loop-holds : tie.Need-loop-run-init invariant-loop decreases-loop
loop-holds c = c.join_fours-run.ensures

add-loop : tie.Need-overflow_add-low invariant-loop decreases-loop
add-loop l = omega (arith, (sound-parts _ (st l).requires.0).shaped, l.loop-run.invariant.within, l.loop-run.invariant.there, l.loop-run.invariant.above)

sub-before : tie.Need-overflow_sub-before invariant-loop decreases-loop
sub-before c = search rules

mul-before : tie.Need-offset_bounds-ends-run invariant-loop decreases-loop
mul-before c = search rules

shared-slice-read-before : tie.Need-bounds-ends-run invariant-loop decreases-loop
shared-slice-read-before c =
    let l = c.before.before in
    omega (arith, c.loop-run-test.true, l.loop-run.invariant.within, l.loop-run.invariant.there)

sub-joins : tie.Need-overflow_sub-run invariant-loop decreases-loop
sub-joins c = search rules

joins-requires : tie.Need-joins-requires invariant-loop decreases-loop
joins-requires c κs =
    let in-loop = c.before in
    let l = in-loop.before in (
      (st l).requires.0,
      (
        omega (arith, in-loop.loop-run-test.true, l.loop-run.invariant.within, l.loop-run.invariant.there),
        whole-stands _ (l.loop-run.run - 1) (l.loop-run.run - 2) (omega (arith, in-loop.loop-run-test.true)) (sound-parts _ (st l).requires.0) (omega (arith, l.loop-run.invariant.within, l.loop-run.invariant.there)),
      ),
    )

-- what the run's test says
told : (c : tie.After-joins invariant-loop decreases-loop) → let in-loop = c.before.before in let l = in-loop.before in c.joins.result ≡ joins_whole (column_now (st l).args.starts (st l).args.ends (st l).args.steps) (l.loop-run.run - 1)
told c =
    let in-loop = c.before.before in
    let l = in-loop.before in
    c.joins.ensures ∙ whole-joins _ (l.loop-run.run - 1) (l.loop-run.run - 2) (omega (arith, in-loop.loop-run-test.true))

returns : tie.Need-returns-then-not-joins invariant-loop decreases-loop
returns c =
    let in-loop = c.before.before.before in
    let l = in-loop.before in
    walk-off _ _ _ l.loop-run.run l.loop-run.invariant (st l).args.start (l.loop-run.run - 1) (omega (arith, in-loop.loop-run-test.true)) (omega (arith, in-loop.loop-run-test.true))
    (sym (told c.before) ∙ not-true c.joins.result c.if-not-joins.true-raw)

sub-run : tie.Need-overflow_sub-run-in-loop-run invariant-loop decreases-loop
sub-run c = search rules

loop-less : tie.Need-loop-run-smaller invariant-loop decreases-loop
loop-less c = search rules

loop-again : tie.Need-loop-run-preserved invariant-loop decreases-loop
loop-again c =
    let in-loop = c.before.before.before in
    let l = in-loop.before in
    walk-on _ _ _ l.loop-run.run l.loop-run.invariant (l.loop-run.run - 1) (omega (arith, in-loop.loop-run-test.true)) (omega (arith, in-loop.loop-run-test.true))
    (sym (told c.before) ∙ not-false c.joins.result c.if-not-joins.false-raw)

joins-requires-2 : tie.Need-joins-requires-2 invariant-loop decreases-loop
joins-requires-2 c κs = let s = st c.before in (s.requires.0, (omega (arith, s.requires.1.0), s.requires.1.1))

returns-2 : tie.Need-returns invariant-loop decreases-loop
returns-2 c =
    let l = c.before.before in
    c.joins-2.ensures ∙ walk-done _ _ _ l.loop-run.run l.loop-run.invariant (st l).args.start (omega (arith, c.loop-run-test.false))

pub join_back_spec : {M : Type 1} → statement M
join_back_spec = tie.close (tie.spec invariant-loop decreases-loop join-fours-requires loop-holds add-loop sub-before mul-before shared-slice-read-before sub-joins joins-requires returns sub-run loop-less loop-again joins-requires-2 returns-2)
