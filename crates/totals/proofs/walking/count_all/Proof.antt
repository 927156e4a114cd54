-- `walking::count_all` meets its contract: the windows below place k end inside, and are counted. Assumes nothing.
use Prim.Native.Nat.{◌-◌}
use native.Mathlib.Omega.{arith}
use lib.ListN.{length}
use Rattle.totals.proofs.Counting.{Counting, counting-start, counting-long, counting_more, counting-beyond, counting-done}
use borrow.Author.Rules.{rules}
use Rattle.totals.proofs.walking.count_all.Statement.{statement}
use Rattle.totals.proofs.walking.count_all.Tie as tie

abbrev invariant-loop : tie.invariant-loop-k
invariant-loop from to size counts₀ sum₀ k₀ counts sum k = Counting size from to counts₀ counts sum k

abbrev decreases-loop : tie.decreases-loop-k
decreases-loop from to size counts₀ sum₀ k₀ counts sum k = length from - k

abbrev start : tie.At-loop-k invariant-loop decreases-loop → tie.Start invariant-loop decreases-loop
start c =
    let k2 = c.before.before in
    k2.before.before

loop-holds : tie.Need-loop-k-init invariant-loop decreases-loop
loop-holds c = counting-start _ _ _ _

mul-end : tie.Need-offset_bounds-to-k invariant-loop decreases-loop
mul-end c = search rules

shared-slice-read-end : tie.Need-bounds-to-k invariant-loop decreases-loop
shared-slice-read-end c = search rules

same_length : tie.Need-shape_of-counts-then-size-end invariant-loop decreases-loop
same_length c = counting-long _ _ _ _ _ _ _ c.loop-k.invariant

returns : tie.Need-returns-then-size-end invariant-loop decreases-loop
returns c =
    let l = c.before.before.before in
    let s = start l in
    counting-beyond _ s.args.from.now s.args.to.now l.loop-k.k c.loop-k-test.true c.if-size-end.true

mul-count-of : tie.Need-offset_bounds-from-k invariant-loop decreases-loop
mul-count-of c = search rules

shared-slice-read-count-of : tie.Need-bounds-from-k invariant-loop decreases-loop
shared-slice-read-count-of c = search rules

count-of-requires : tie.Need-count_of-n-requires invariant-loop decreases-loop
count-of-requires c κs = search rules

mul-counts : tie.Need-offset_bounds-counts-k invariant-loop decreases-loop
mul-counts c = search rules

slice-write-counts : tie.Need-bounds-counts-k invariant-loop decreases-loop
slice-write-counts c =
    let e = c.before.before in
    let l = e.before.before.before in
    let s = start l in
    omega (arith, counting-long _ _ _ _ _ _ _ l.loop-k.invariant, s.requires.0.2)

add-sum : tie.Need-overflow_add-sum invariant-loop decreases-loop
add-sum c =
    let e = c.before.before in
    let l = e.before.before.before in
    let s = start l in
    omega (arith, l.loop-k.invariant.small, l.loop-k.invariant.to, s.requires.0.1, s.requires.1, c.count_of-n.ensures)

add-k : tie.Need-overflow_add-k invariant-loop decreases-loop
add-k c = search rules

loop-less : tie.Need-loop-k-smaller invariant-loop decreases-loop
loop-less c = search rules

loop-again : tie.Need-loop-k-preserved invariant-loop decreases-loop
loop-again c =
    let e = c.before.before in
    let l = e.before.before.before in
    let s = start l in
    counting_more _ _ _ _ _ _ _ l.loop-k.invariant s.requires.1 e.loop-k-test.true e.if-size-end.false _ c.count_of-n.ensures

same-length-2 : tie.Need-shape_of-counts invariant-loop decreases-loop
same-length-2 c = counting-long _ _ _ _ _ _ _ c.loop-k.invariant

returns-2 : tie.Need-returns invariant-loop decreases-loop
returns-2 c = counting-done _ _ _ _ _ _ _ c.loop-k.invariant c.loop-k-test.false

pub count_all_spec : {M : Type 1} → statement M
count_all_spec = tie.close (tie.spec invariant-loop decreases-loop loop-holds mul-end shared-slice-read-end same_length returns mul-count-of shared-slice-read-count-of count-of-requires mul-counts slice-write-counts add-sum add-k loop-less loop-again same-length-2 returns-2)
