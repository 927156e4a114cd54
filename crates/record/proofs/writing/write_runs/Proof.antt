-- `record::writing::write_runs` meets its contract. The loop's invariant: `last` is the end before run i, and the runs below i are stored. Assumes nothing.
use mathlib.Core.Path.{◌≡◌, refl, ap, ◌∙◌}
use Prim.Native.Nat.{◌-◌, ◌≤◌}
use native.Mathlib.Omega.{arith}
use lib.ListN.{length, get_or}
use lib.IntN.{pos}
use lib.Seq.{sets, length-sets}
use mir.Syntax.{w16, w64}
use Rattle.meaning.specs.Naming.{column_now}
use Rattle.keys.proofs.Bits.{back}
use Rattle.meaning.specs.Column.{column_of, end_before}
use Rattle.meaning.specs.Parts.{joined}
use Rattle.meaning.proofs.Runs.{before-zero, before-next}
use Rattle.meaning.proofs.Soundness.{Sound, sound-parts}
use Rattle.codec.specs.Record.{run_out}
use Rattle.codec.proofs.Writing.{runs-stored}
use borrow.Author.Rules.{rules}
use Rattle.record.proofs.writing.write_runs.Statement.{statement}
use Rattle.record.proofs.writing.write_runs.Tie as tie

abbrev invariant-loop : tie.invariant-loop-i
invariant-loop starts ends steps out₀ last₀ i₀ out last i = (i ≤ length ends) × (last ≡ end_before ends i) × (out ≡ sets out₀ 6 (joined (run_out (column_of starts ends steps)) i))

abbrev decreases-loop : tie.decreases-loop-i
decreases-loop starts ends steps out₀ last₀ i₀ out last i = length ends - i

-- the column is sound, and the output as long as it was
known : (s : tie.Start invariant-loop decreases-loop) → Sound (column_now s.args.starts s.args.ends s.args.steps)
known s = sound-parts _ s.requires.0

long : (c : tie.At-loop-i invariant-loop decreases-loop) → length c.loop-i.out ≡ length c.args.out.now
long c = ap length c.loop-i.invariant.2 ∙ simp length-sets

loop-holds : tie.Need-loop-i-init invariant-loop decreases-loop
unfolding joined
loop-holds c = (omega arith, before-zero c.args.ends.now {r = 0} refl, refl)

mul-end : tie.Need-offset_bounds-ends-i invariant-loop decreases-loop
mul-end c = search rules

shared-slice-read-end : tie.Need-bounds-ends-i invariant-loop decreases-loop
shared-slice-read-end c = search rules

mul-write-run : tie.Need-overflow_mul-i invariant-loop decreases-loop
mul-write-run c = search rules

add-write-run : tie.Need-overflow_add-i invariant-loop decreases-loop
add-write-run c =
    let at-loop = c.before.before.before in
    let at-start = at-loop.before.before.before in
    omega (arith, (known (at-start)).shaped.few)

mul-write-run-2 : tie.Need-offset_bounds-starts-i invariant-loop decreases-loop
mul-write-run-2 c = search rules

shared-slice-copy-out-write-run : tie.Need-bounds-starts-i invariant-loop decreases-loop
shared-slice-copy-out-write-run c =
    let at-loop = c.before.before.before in
    let at-start = at-loop.before.before.before in
    omega (arith, (known (at-start)).shaped.starts-long)

mul-write-run-3 : tie.Need-offset_bounds-steps-i invariant-loop decreases-loop
mul-write-run-3 c = search rules

shared-slice-copy-out-write-run-2 : tie.Need-bounds-steps-i invariant-loop decreases-loop
shared-slice-copy-out-write-run-2 c =
    let in-loop = c.before.before.before in
    let shr_slice_at = in-loop.before.before.before in
    let at-start = shr_slice_at.before in
    omega (arith, (known (at-start)).shaped.steps-long)

sub-write-run : tie.Need-overflow_sub-end invariant-loop decreases-loop
sub-write-run c =
    let at-slice2 = c.before.before.before in
    let in-loop = at-slice2.before in
    let l = in-loop.before in
    omega (arith, l.loop-i.invariant.1, (known l.before.before.before).up l.loop-i.i in-loop.loop-i-test.true)

cast-write-run : tie.Need-overflow_cast-end invariant-loop decreases-loop
cast-write-run c =
    let at-slice2 = c.before.before.before in
    let in-loop = at-slice2.before in
    let l = in-loop.before in
    omega (arith, (known l.before.before.before).most l.loop-i.i in-loop.loop-i-test.true)

write-run-requires : tie.Need-write_run-requires invariant-loop decreases-loop
write-run-requires c κs =
    let at-slice2 = c.before.before.before in
    let in-loop = at-slice2.before in
    let l = in-loop.before in
    omega (arith, long l, l.requires.1, in-loop.loop-i-test.true)

add-i : tie.Need-overflow_add-i-in-loop-i invariant-loop decreases-loop
add-i c = search rules

loop-less : tie.Need-loop-i-smaller invariant-loop decreases-loop
loop-less c = search rules

loop-again : tie.Need-loop-i-preserved invariant-loop decreases-loop
loop-again c =
    let r = c.before.before in
    let at-write-run-arg = r.before.before.before in
    let l = at-write-run-arg.before.before.before in
    let s = l.before.before.before in (
      omega arith,
      before-next s.args.ends.now l.loop-i.i,
      runs-stored (column_now s.args.starts s.args.ends s.args.steps) l.loop-i.i l.loop-i.last _ _ l.loop-i.out s.args.out.now _ l.loop-i.invariant.1 (back w64 (get_or s.args.starts.now l.loop-i.i (pos 0)) r.write_run-arg-in-loop-i-1.given)
          (back w16 (get_or s.args.steps.now l.loop-i.i (pos 0)) r.write_run-arg-in-loop-i-2-1.given) l.loop-i.invariant.2 r.write_run.ensures,
    )

same_length : tie.Need-shape_of-out invariant-loop decreases-loop
same_length c = long c.before

returns : tie.Need-returns invariant-loop decreases-loop
returns c =
    let shr_slice_at = c.before.before.before in
    let at-start = shr_slice_at.before in
    let e : c.loop-i.i ≡ length at-start.args.ends.now = omega arith in
    rw e at c.loop-i.invariant.2

pub write_runs_spec : {M : Type 1} → statement M
write_runs_spec = tie.close (tie.spec invariant-loop decreases-loop loop-holds mul-end shared-slice-read-end mul-write-run add-write-run mul-write-run-2 shared-slice-copy-out-write-run mul-write-run-3 shared-slice-copy-out-write-run-2 sub-write-run cast-write-run write-run-requires add-i loop-less loop-again same_length returns)
