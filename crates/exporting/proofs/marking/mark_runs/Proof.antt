-- `marking::mark_runs` meets its contract: the elements below run r are marked. Assumes nothing.
use Prim.Native.Nat.{◌-◌, ◌≤◌, ◌<◌}
use mathlib.Core.Path.{◌≡◌, refl, ap, ◌∙◌}
use native.Mathlib.Omega.{arith}
use lib.IntN.{nat_abs}
use lib.ListN.{length, get_or}
use lib.Signed.{nat_abs-le}
use mir.Syntax.{w16, w64}
use Rattle.keys.specs.Key.{key}
use Rattle.keys.specs.Widths.{half64}
use Rattle.keys.proofs.Bits.{back}
use Rattle.meaning.specs.Naming.{column_now}
use Rattle.meaning.specs.Column.{Column, column_of, start_of, step_of, end_before, sequence_of}
use Rattle.meaning.proofs.Runs.{before-zero, before-next}
use Rattle.meaning.proofs.Soundness.{Sound, sound-parts}
use Rattle.recorded.specs.Records.{carries_record}
use Rattle.recorded.specs.Inner.{first_at, more_of, floor_of}
use Rattle.exporting.specs.Inner.{Marked}
use Rattle.exporting.proofs.Marks.{mark-as}
use Rattle.recorded.proofs.Fitting.{fit_at, fit-key}
use Rattle.recorded.proofs.Carried.{carries_to, carries-all}
use Rattle.exporting.proofs.Carrying.{carries-none, run_room, mark-next}
use borrow.Author.Rules.{rules}
use Rattle.exporting.proofs.marking.mark_runs.Statement.{statement}
use Rattle.exporting.proofs.marking.mark_runs.Tie as tie

abbrev invariant-loop : tie.invariant-loop-r
invariant-loop starts ends steps count bytes₀ low₀ r₀ bytes low r = (r ≤ length ends) × (low ≡ end_before ends r) × Marked bytes₀ bytes (carries_to (column_of starts ends steps) (end_before ends r))

abbrev decreases-loop : tie.decreases-loop-r
decreases-loop starts ends steps count bytes₀ low₀ r₀ bytes low r = length ends - r

abbrev start : tie.At-loop-r invariant-loop decreases-loop → tie.Start invariant-loop decreases-loop
start c = c.before.before.before

abbrev col : tie.Start invariant-loop decreases-loop → Column
col s = column_now s.args.starts s.args.ends s.args.steps

good : (s : tie.Start invariant-loop decreases-loop) → Sound (col s)
good s = sound-parts (col s) s.requires.0

-- in a turn
module _ (c : tie.In-loop-r invariant-loop decreases-loop) where
  rise : end_before (start c.before).args.ends.now c.loop-r.r < get_or (start c.before).args.ends.now c.loop-r.r 0
  rise = (good (start c.before)).up c.loop-r.r c.loop-r-test.true

-- the run's first element
module _ (c : tie.After-bias invariant-loop decreases-loop) where
  abbrev turn : tie.In-loop-r invariant-loop decreases-loop
  turn = c.before.before.before

  abbrev at : tie.At-loop-r invariant-loop decreases-loop
  at = turn.before

  abbrev k : Column
  k = col (start at)

  of-start : c.bias.result ≡ key half64 (start_of k at.loop-r.r)
  of-start = c.bias.ensures ∙ ap (key half64) (back w64 (start_of k at.loop-r.r) c.bias-arg-1.given)

  above : half64 ≤ key half64 (start_of k at.loop-r.r)
  above = fit-key (start_of k at.loop-r.r) (step_of k at.loop-r.r) (more_of k at.loop-r.r) (floor_of k at.loop-r.r) (start at).args.count
      (fit_at k (good (start at)) (start at).args.count (start at).requires.1.0 at.loop-r.r turn.loop-r-test.true)

-- its step
module _ (c : tie.After-size16-step invariant-loop decreases-loop) where
  abbrev b : tie.After-bias invariant-loop decreases-loop
  b = c.before.before

  of-step : c.size16-step.result ≡ nat_abs (step_of (k b) (at b).loop-r.r)
  of-step = c.size16-step.ensures ∙ ap nat_abs (back w16 (step_of (k b) (at b).loop-r.r) c.size16-arg-1.given)

  small : c.size16-step.result ≤ 32768
  small = omega (arith, of-step, nat_abs-le (step_of (k b) (at b).loop-r.r) {H = 32768} c.size16-arg-1.given)

  first-is : b.bias.result - 9223372036854775808 ≡ first_at (start_of (k b) (at b).loop-r.r)
  first-is = ap (λ x. x - 9223372036854775808) (of-start b)

  long-is : get_or (start (at b)).args.ends.now (at b).loop-r.r 0 - (at b).loop-r.low ≡ get_or (start (at b)).args.ends.now (at b).loop-r.r 0 - end_before (start (at b)).args.ends.now (at b).loop-r.r
  long-is = ap (λ x. get_or (start (at b)).args.ends.now (at b).loop-r.r 0 - x) (at b).loop-r.invariant.1

loop-holds : tie.Need-loop-r-init invariant-loop decreases-loop
loop-holds c = let s = c.before.before in (omega arith, before-zero s.args.ends.now {r = 0} refl, carries-none (col s) s.args.bytes.now)

mul-end : tie.Need-offset_bounds-ends-r invariant-loop decreases-loop
mul-end c = search rules

shared-slice-read-end : tie.Need-bounds-ends-r invariant-loop decreases-loop
shared-slice-read-end c = search rules

mul-bias : tie.Need-offset_bounds-starts-r invariant-loop decreases-loop
mul-bias c = search rules

shared-slice-copy-out-bias : tie.Need-bounds-starts-r invariant-loop decreases-loop
shared-slice-copy-out-bias c = omega (arith, (good (start c.before.before)).shaped)

bias-requires : tie.Need-bias-requires invariant-loop decreases-loop
bias-requires c κs = search rules

sub-start : tie.Need-overflow_sub-start invariant-loop decreases-loop
sub-start c = omega (arith, of-start c, above c)

mul-size16 : tie.Need-offset_bounds-steps-r invariant-loop decreases-loop
mul-size16 c = search rules

shared-slice-copy-out-size16 : tie.Need-bounds-steps-r invariant-loop decreases-loop
shared-slice-copy-out-size16 c = omega (arith, (good (start (at c))).shaped)

size16-requires : tie.Need-size16-step-requires invariant-loop decreases-loop
size16-requires c κs = search rules

sub-set-run : tie.Need-overflow_sub-end invariant-loop decreases-loop
sub-set-run c = omega (arith, rise (turn (b c.before)))

set-run-requires : tie.Need-set_run-requires invariant-loop decreases-loop
set-run-requires c κs =
    let z = c.before in
    let a = at (b z) in
    let s = start a in
    run_room (k (b z)) (good s) s.args.count s.requires.1.0 a.loop-r.bytes a.loop-r.r _ _ _ (turn (b z)).loop-r-test.true (first-is z) (of-step z) (long-is z) s.requires.1.1.0
    (omega (arith, a.loop-r.invariant.2.long)) (small z)

add_r : tie.Need-overflow_add-r invariant-loop decreases-loop
add_r c = search rules

loop-less : tie.Need-loop-r-smaller invariant-loop decreases-loop
loop-less c = search rules

loop-again : tie.Need-loop-r-preserved invariant-loop decreases-loop
loop-again c =
    let u = c.before.before in
    let z = u.before.before in
    let a = at (b z) in
    let s = start a in (
      omega arith,
      before-next s.args.ends.now a.loop-r.r,
      rw (← before-next s.args.ends.now a.loop-r.r)
          (mark-next (k (b z)) (good s) s.args.count s.requires.1.0 a.loop-r.r _ _ _ (turn (b z)).loop-r-test.true (first-is z) (of-step z) (long-is z) a.loop-r.invariant.2 u.set_run.ensures),
    )

same_length : tie.Need-shape_of-bytes invariant-loop decreases-loop
same_length c = c.loop-r.invariant.2.long

returns : tie.Need-returns invariant-loop decreases-loop
returns c =
    let a = c.before in
    let s = start a in
    let e : a.loop-r.r ≡ length s.args.ends.now = omega arith in
    mark-as (carries_record (sequence_of (col s))) (rw e at a.loop-r.invariant.2) (carries-all (col s))

pub mark_runs_spec : {M : Type 1} → statement M
mark_runs_spec = tie.close (tie.spec invariant-loop decreases-loop loop-holds mul-end shared-slice-read-end mul-bias shared-slice-copy-out-bias bias-requires sub-start mul-size16 shared-slice-copy-out-size16 size16-requires sub-set-run set-run-requires add_r loop-less loop-again same_length returns)
