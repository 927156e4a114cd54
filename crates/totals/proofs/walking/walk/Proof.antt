-- `walking::walk` meets its contract: the elements up to the index where the loop stands are summed. Assumes nothing.
use Prim.Native.Nat.{◌+◌, ◌-◌, ◌≤◌, ◌<◌}
use native.Mathlib.Omega.{arith}
use mathlib.Core.Path.{refl}
use lib.ListN.{get_or}
use lib.IntN.{pos}
use mir.Syntax.{w16, w64}
use Rattle.keys.proofs.Bits.{back}
use Rattle.meaning.specs.Column.{Column, column_of, size_of, runs}
use Rattle.meaning.specs.Naming.{column_now}
use Rattle.meaning.proofs.Runs.{run-le, from_le}
use Rattle.meaning.proofs.Soundness.{Sound, sound-parts, size-most}
use Rattle.totals.proofs.Lists.{holds-few}
use Rattle.totals.proofs.Steps.{Walked, Part, walk_start, walk-part, walk-done}
use borrow.Author.Rules.{rules}
use Rattle.totals.proofs.walking.walk.Statement.{statement}
use Rattle.totals.proofs.walking.walk.Tie as tie

abbrev invariant-loop : tie.invariant-loop-at
invariant-loop starts ends steps from n to run₀ skip₀ at₀ sums₀ run skip at sums = Walked (column_of starts ends steps) from to run skip at sums

abbrev decreases-loop : tie.decreases-loop-at
decreases-loop starts ends steps from n to run₀ skip₀ at₀ sums₀ run skip at sums = to - at

abbrev col : tie.Start invariant-loop decreases-loop → Column
col s = column_now s.args.starts s.args.ends s.args.steps

sound : (s : tie.Start invariant-loop decreases-loop) → Sound (col s)
sound s = sound-parts _ s.requires.0

small : (s : tie.Start invariant-loop decreases-loop) → size_of (col s) ≤ 4294967295
small s = size-most _ (sound s)

abbrev start : tie.At-loop-at invariant-loop decreases-loop → tie.Start invariant-loop decreases-loop
start c =
    let e = c.before.before in
    e.before.before.before

inside : (s : tie.Start invariant-loop decreases-loop) → s.args.from < s.args.from + s.args.n → s.args.from + s.args.n ≤ size_of (col s)
inside s l = omega (arith, s.requires.1)

-- in a turn
module _ (i : tie.In-loop-at invariant-loop decreases-loop) where
  abbrev lp : tie.At-loop-at invariant-loop decreases-loop
  lp = i.before

  within : (start lp).args.from + (start lp).args.n ≤ size_of (col (start lp))
  within = inside (start lp) (omega (arith, lp.loop-at.invariant.lo, i.loop-at-test.true))

  there : lp.loop-at.run < runs (col (start lp))
  there = (walk-part (col (start lp)) (sound (start lp)) _ _ _ _ _ _ _ lp.loop-at.invariant within i.loop-at-test.true refl).there

-- the part of the run that is summed
part : (c : tie.After-smaller-end invariant-loop decreases-loop) → let i = c.before.before in let l = i.before in
    Part (col (start l)) (start l).args.from ((start l).args.from + (start l).args.n) l.loop-at.run l.loop-at.skip l.loop-at.at c.smaller-end.result l.loop-at.sums
part c =
    let i = c.before.before in
    let l = i.before in
    walk-part (col (start l)) (sound (start l)) _ _ _ _ _ _ _ l.loop-at.invariant (within i) i.loop-at-test.true c.smaller-end.ensures

add-to : tie.Need-overflow_add-to invariant-loop decreases-loop
add-to c = record { fits = omega (arith, c.requires.1, small c.before, c.ranges.from.fits) }

run-of-requires : tie.Need-run_of-run-requires invariant-loop decreases-loop
run-of-requires c κs = (sound c.before).up

end-before-requires : tie.Need-end_before-requires invariant-loop decreases-loop
end-before-requires c κs = rw c.run_of-run.ensures (run-le _ _)

sub-skip : tie.Need-overflow_sub-skip invariant-loop decreases-loop
sub-skip c = from_le _ _ _ _ c.run_of-run.ensures c.end_before.ensures

nothing-requires : tie.Need-nothing-sums-requires invariant-loop decreases-loop
nothing-requires c κs = search rules

loop-holds : tie.Need-loop-at-init invariant-loop decreases-loop
loop-holds c = let e = c.before in
    let s = e.before.before.before in
    walk_start _ _ _ _ _ _ (omega arith) e.run_of-run.ensures (rw e.end_before.ensures) c.nothing-sums.ensures

mul-smaller : tie.Need-offset_bounds-ends-run invariant-loop decreases-loop
mul-smaller c = omega (arith, there c, (sound (start c.before)).shaped.few)

shared-slice-read-smaller : tie.Need-bounds-ends-run invariant-loop decreases-loop
shared-slice-read-smaller c = there c.before

smaller-requires : tie.Need-smaller-end-requires invariant-loop decreases-loop
smaller-requires c κs = search rules

mul-stretch : tie.Need-offset_bounds-starts-run invariant-loop decreases-loop
mul-stretch c = omega (arith, there c.before.before, (sound (start c.before.before.before)).shaped.few)

shared-slice-copy-out-stretch : tie.Need-bounds-starts-run invariant-loop decreases-loop
shared-slice-copy-out-stretch c = omega (arith, there c.before.before, (sound (start c.before.before.before)).shaped.starts-long)

mul-stretch-2 : tie.Need-offset_bounds-steps-run invariant-loop decreases-loop
mul-stretch-2 c = let i = c.before.before.before in omega (arith, there i, (sound (start i.before)).shaped.few)

shared-slice-copy-out-stretch-2 : tie.Need-bounds-steps-run invariant-loop decreases-loop
shared-slice-copy-out-stretch-2 c = let i = c.before.before.before in omega (arith, there i, (sound (start i.before)).shaped.steps-long)

sub-stretch : tie.Need-overflow_sub-end invariant-loop decreases-loop
sub-stretch c = omega (arith, (part c.before.before).after)

stretch-requires : tie.Need-stretch-requires invariant-loop decreases-loop
stretch-requires c κs = let m = c.before.before in
    let l = m.before.before.before in
    let s = start l in
    let p = part m in
    (omega (arith, p.after), p.short, rw (back w64 (get_or s.args.starts.now l.loop-at.run (pos 0)) c.stretch-arg-1.given, back w16 (get_or s.args.steps.now l.loop-at.run (pos 0)) c.stretch-arg-in-loop-at-1.given) (p.fits c.stretch-arg-1.given))

join-requires : tie.Need-join-sums-requires invariant-loop decreases-loop
join-requires c κs = let m = c.before.before.before in
    let l = m.before.before.before in
    ((holds-few _ _ l.loop-at.run 2097152 (omega (arith, l.loop-at.invariant.few, (sound (start l)).shaped.few)) l.loop-at.invariant.holds).within, (holds-few _ _ 1 2097152 (omega arith) c.stretch.ensures).within)

add-run : tie.Need-overflow_add-run invariant-loop decreases-loop
add-run c =
    let a2 = c.before.before in
    let i = a2.before.before.before in
    omega (arith, there i.before, (sound (start i.before.before)).shaped.few)

loop-less : tie.Need-loop-at-smaller invariant-loop decreases-loop
loop-less c =
    let a2 = c.before.before in
    let m = a2.before.before in
    omega (arith, (part m).after, m.smaller-end.ensures)

loop-again : tie.Need-loop-at-preserved invariant-loop decreases-loop
loop-again c = let a = c.before.before in
    let m = a.before.before in
    let l = m.before.before.before in
    let s = start l in
    (part m).next _ _ (rw (back w64 (get_or s.args.starts.now l.loop-at.run (pos 0)) a.stretch-arg-1.given, back w16 (get_or s.args.steps.now l.loop-at.run (pos 0)) a.stretch-arg-in-loop-at-1.given) at c.stretch.ensures) c.join-sums.ensures

returns : tie.Need-returns invariant-loop decreases-loop
returns c = walk-done (col (start c.before)) (sound (start c.before)) _ _ _ _ _ _ c.loop-at.invariant c.loop-at-test.false

pub walk_spec : {M : Type 1} → statement M
walk_spec = tie.close (tie.spec invariant-loop decreases-loop add-to run-of-requires end-before-requires sub-skip nothing-requires loop-holds mul-smaller shared-slice-read-smaller smaller-requires mul-stretch shared-slice-copy-out-stretch mul-stretch-2 shared-slice-copy-out-stretch-2 sub-stretch stretch-requires join-requires add-run loop-less loop-again returns)
