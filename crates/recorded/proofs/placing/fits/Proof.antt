-- `placing::fits` meets its contract: every run below r fits. Assumes nothing.
use Prim.Native.Nat.{ℕ, ◌+◌, ◌-◌, ◌≤◌, ◌<◌}
use mathlib.Core.Path.{◌≡◌, refl, sym, ap, ◌∙◌}
use mathlib.Core.Bool.{true}
use native.Mathlib.Numerals.{add-one}
use native.Mathlib.Omega.{arith}
use borrow.Author.Count.{below_more}
use lib.ListN.{length, get_or}
use mir.Syntax.{w16, w64}
use Rattle.ranges.proofs.Spans.{all-in, not-all-in}
use Rattle.keys.proofs.Bits.{back}
use Rattle.meaning.specs.Naming.{column_now}
use Rattle.meaning.specs.Column.{Column, column_of, start_of, step_of, end_before}
use Rattle.meaning.proofs.Runs.{before-zero, before-next}
use Rattle.meaning.proofs.Soundness.{Sound, sound-parts}
use Rattle.recorded.specs.Inner.{climb_of, more_of, floor_of, run_fits, all_fit}
use Rattle.recorded.proofs.Fitting.{climb-told, climbed, climbed-on}
use borrow.Author.Rules.{rules}
use Rattle.recorded.proofs.placing.fits.Statement.{statement}
use Rattle.recorded.proofs.placing.fits.Tie as tie

abbrev invariant-loop : tie.invariant-loop-r
invariant-loop starts ends steps count floor₀ low₀ r₀ floor low r =
    (r ≤ length ends) × (low ≡ end_before ends r) × (floor ≡ floor_of (column_of starts ends steps) r) × ((k : ℕ) → k < r → run_fits (column_of starts ends steps) count k ≡ true)

abbrev decreases-loop : tie.decreases-loop-r
decreases-loop starts ends steps count floor₀ low₀ r₀ floor low r = length ends - r

abbrev start : tie.At-loop-r invariant-loop decreases-loop → tie.Start invariant-loop decreases-loop
start c = c.before.before

abbrev col : tie.Start invariant-loop decreases-loop → Column
col s = column_now s.args.starts s.args.ends s.args.steps

good : (s : tie.Start invariant-loop decreases-loop) → Sound (col s)
good s = sound-parts (col s) s.requires

-- in a turn
module _ (c : tie.In-loop-r invariant-loop decreases-loop) where
  abbrev l : tie.At-loop-r invariant-loop decreases-loop
  l = c.before

  rise : end_before (start l).args.ends.now l.loop-r.r < get_or (start l).args.ends.now l.loop-r.r 0
  rise = (good (start l)).up l.loop-r.r c.loop-r-test.true

  most : get_or (start l).args.ends.now l.loop-r.r 0 ≤ 4294967295
  most = (good (start l)).most l.loop-r.r c.loop-r-test.true

-- what a turn finds
module _ (c : tie.After-climb-floor invariant-loop decreases-loop) where
  abbrev arg : tie.After-climb-arg-1 invariant-loop decreases-loop
  arg = c.before.before

  abbrev turn : tie.In-loop-r invariant-loop decreases-loop
  turn = arg.before.before

  abbrev at : tie.At-loop-r invariant-loop decreases-loop
  at = turn.before

  abbrev k : Column
  k = col (start at)

  found : c.climb-floor.result ≡ climb_of (start_of k at.loop-r.r) (step_of k at.loop-r.r) (more_of k at.loop-r.r) (floor_of k at.loop-r.r) (start at).args.count
  found = c.climb-floor.ensures ∙ climb-told k at.loop-r.r at.loop-r.low at.loop-r.floor (start at).args.count _ _
      (back w64 (start_of k at.loop-r.r) arg.climb-arg-1.given) (back w16 (step_of k at.loop-r.r) c.climb-arg-in-loop-r-1.given) at.loop-r.invariant.1 at.loop-r.invariant.2

loop-holds : tie.Need-loop-r-init invariant-loop decreases-loop
unfolding floor_of
loop-holds c = (omega arith, before-zero c.args.ends.now {r = 0} refl, refl, λ k l. absurd (omega arith))

mul-end : tie.Need-offset_bounds-ends-r invariant-loop decreases-loop
mul-end c = search rules

shared-slice-read-end : tie.Need-bounds-ends-r invariant-loop decreases-loop
shared-slice-read-end c = search rules

mul-climb : tie.Need-offset_bounds-starts-r invariant-loop decreases-loop
mul-climb c = search rules

shared-slice-copy-out-climb : tie.Need-bounds-starts-r invariant-loop decreases-loop
shared-slice-copy-out-climb c = omega (arith, (good (start c.before.before)).shaped)

mul-climb-2 : tie.Need-offset_bounds-steps-r invariant-loop decreases-loop
mul-climb-2 c = search rules

shared-slice-copy-out-climb-2 : tie.Need-bounds-steps-r invariant-loop decreases-loop
shared-slice-copy-out-climb-2 c = omega (arith, (good (start c.before.before.before)).shaped)

sub-climb : tie.Need-overflow_sub-end invariant-loop decreases-loop
sub-climb c = omega (arith, rise c.before.before.before)

sub-climb-2 : tie.Need-overflow_sub-end-in-loop-r invariant-loop decreases-loop
sub-climb-2 c = omega (arith, rise c.before.before.before)

climb-requires : tie.Need-climb-floor-requires invariant-loop decreases-loop
climb-requires c κs = omega (arith, most c.before.before.before)

returns : tie.Need-returns-then-floor-eq0 invariant-loop decreases-loop
unfolding all_fit run_fits
returns c =
    let m = c.before in
    let a = at m in
    sym (not-all-in (run_fits (k m) (start a).args.count) 0 (length (start a).args.ends.now) a.loop-r.r (omega arith) (turn m).loop-r-test.true
    (climbed (start_of (k m) a.loop-r.r) (step_of (k m) a.loop-r.r) (more_of (k m) a.loop-r.r) (floor_of (k m) a.loop-r.r) (start a).args.count (sym (found m) ∙ c.if-floor-eq0.true)))

add_r : tie.Need-overflow_add-r invariant-loop decreases-loop
add_r c = search rules

loop-less : tie.Need-loop-r-smaller invariant-loop decreases-loop
loop-less c = search rules

-- the run fits, and the next floor is above its last element
passed : (c : tie.Else-floor-eq0 invariant-loop decreases-loop) → let m = c.before in let a = at m in
    (run_fits (k m) (start a).args.count a.loop-r.r ≡ true) × (m.climb-floor.result ≡ floor_of (k m) (a.loop-r.r + 1))
unfolding run_fits floor_of
passed c =
    let m = c.before in
    let a = at m in
    let on = climbed-on (start_of (k m) a.loop-r.r) (step_of (k m) a.loop-r.r) (more_of (k m) a.loop-r.r) (floor_of (k m) a.loop-r.r) (start a).args.count (λ z. c.if-floor-eq0.false (found m ∙ z)) in
    (on.0, found m ∙ on.1 ∙ ap (floor_of (k m)) (sym (add-one a.loop-r.r)))

loop-again : tie.Need-loop-r-preserved invariant-loop decreases-loop
loop-again c =
    let m = c.before in
    let a = at m in (
      omega arith,
      before-next (start a).args.ends.now a.loop-r.r,
      (passed c).1,
      below_more (λ j. run_fits (k m) (start a).args.count j ≡ true) a.loop-r.r a.loop-r.invariant.3 (passed c).0,
    )

returns-2 : tie.Need-returns invariant-loop decreases-loop
unfolding all_fit
returns-2 c =
    let a = c.before in
    sym (all-in (run_fits (col (start a)) (start a).args.count) 0 (length (start a).args.ends.now) (λ j m l. a.loop-r.invariant.3 j (omega arith)))

pub fits_spec : {M : Type 1} → statement M
fits_spec = tie.close (tie.spec invariant-loop decreases-loop loop-holds mul-end shared-slice-read-end mul-climb shared-slice-copy-out-climb mul-climb-2 shared-slice-copy-out-climb-2 sub-climb sub-climb-2 climb-requires returns add_r loop-less loop-again returns-2)
