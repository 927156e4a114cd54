-- `checked::look` meets its contract: the runs that it has passed are sure, if none was too wide and none too far out. Assumes nothing.
use Rattle.std.proofs.Common.{◌+◌, ◌-◌, length, get_or, pos, refl, arith, w16, w64, rules, ltb-true}
use lib.Bits.{bit_or}
use Rattle.ranges.proofs.Bools.{clash}
use Rattle.keys.proofs.Bits.{back}
use Rattle.meaning.specs.Column.{column_of}
use Rattle.meaning.proofs.Soundness.{Shaped, shape-parts, sure-all}
use Rattle.checked.proofs.Looking.{Seen, seen_none, seen_more}
use Rattle.checked.proofs.look.Statement.{statement}
use Rattle.checked.proofs.look.Tie as tie

abbrev invariant-loop : tie.invariant-loop-i
invariant-loop starts ends steps last₀ wide₀ far₀ i₀ last wide far i = Shaped (column_of starts ends steps) × Seen (column_of starts ends steps) last i wide far

abbrev decreases-loop : tie.decreases-loop-i
decreases-loop starts ends steps last₀ wide₀ far₀ i₀ last wide far i = length ends - i

-- one more run
more : (c : tie.After-away-far invariant-loop decreases-loop) →
    let at-beyond = c.before.before.before in let at-loop = at-beyond.before.before.before in let s = at-loop.before.before in let l = at-loop.loop-i in
    let col = column_of s.args.starts.now s.args.ends.now s.args.steps.now in
    Seen col (get_or col.ends l.i 0) (l.i + 1) (bit_or l.wide at-beyond.beyond-wide.result) (bit_or l.far c.away-far.result)
more c =
    let at-beyond = c.before.before.before in
    let in-loop = at-beyond.before.before in
    let at-loop = in-loop.before in
    let s = at-loop.before.before in
    let l = at-loop.loop-i in
    let col = column_of s.args.starts.now s.args.ends.now s.args.steps.now in
    seen_more col l.last l.i l.wide l.far at-beyond.beyond-wide.result c.away-far.result _ _ l.invariant.1 l.invariant.0.few in-loop.loop-i-test.true
    (back w64 (get_or col.starts l.i (pos 0)) c.before.before.away-arg-1.given) (back w16 (get_or col.steps l.i (pos 0)) c.before.away-arg-in-loop-i-1.given)
    at-beyond.beyond-wide.ensures c.away-far.ensures

loop-holds : tie.Need-loop-i-init invariant-loop decreases-loop
loop-holds c = (shape-parts _ c.before.requires, seen_none _)

mul-end : tie.Need-offset_bounds-ends-i invariant-loop decreases-loop
mul-end c = search rules

shared-slice-read-end : tie.Need-bounds-ends-i invariant-loop decreases-loop
shared-slice-read-end c = search rules

beyond-requires : tie.Need-beyond-wide-requires invariant-loop decreases-loop
beyond-requires c κs = search rules

mul-away : tie.Need-offset_bounds-starts-i invariant-loop decreases-loop
mul-away c = search rules

shared-slice-copy-out-away : tie.Need-bounds-starts-i invariant-loop decreases-loop
shared-slice-copy-out-away c = search rules

mul-away-2 : tie.Need-offset_bounds-steps-i invariant-loop decreases-loop
mul-away-2 c = search rules

shared-slice-copy-out-away-2 : tie.Need-bounds-steps-i invariant-loop decreases-loop
shared-slice-copy-out-away-2 c = search rules

away-requires : tie.Need-away-far-requires invariant-loop decreases-loop
away-requires c κs = search rules

add-i : tie.Need-overflow_add-i invariant-loop decreases-loop
add-i c = search rules

loop-less : tie.Need-loop-i-smaller invariant-loop decreases-loop
loop-less c = search rules

loop-again : tie.Need-loop-i-preserved invariant-loop decreases-loop
loop-again c = (search rules, more c)

returns : tie.Need-returns-then-wide-ge4294967296 invariant-loop decreases-loop
returns c = λ e. clash e refl

returns-2 : tie.Need-returns-then-far-ge9223372036854775808 invariant-loop decreases-loop
returns-2 c = λ e. clash e refl

returns-3 : tie.Need-returns invariant-loop decreases-loop
returns-3 c = λ e.
    let at-else1 = c.before in
    let after = at-else1.before in
    let l = after.before.loop-i in
    sure-all _ _ _ (l.invariant.1 (omega (arith, at-else1.if-wide-ge4294967296.false)) (omega (arith, c.if-far-ge9223372036854775808.false))).0 after.loop-i-test.false (omega (arith, ltb-true l.last 4294967296 e))

pub look_spec : {M : Type 1} → statement M
look_spec = tie.close (tie.spec invariant-loop decreases-loop loop-holds mul-end shared-slice-read-end beyond-requires mul-away shared-slice-copy-out-away mul-away-2 shared-slice-copy-out-away-2 away-requires add-i loop-less loop-again returns returns-2 returns-3)
