-- `walk` meets its contract: each run that is passed has a next that does not start above the target. Assumes nothing.
use Prim.Native.Nat.{ℕ, suc, ◌+◌, ◌-◌, ◌≤◌, ◌<◌}
use native.Mathlib.Omega.{arith}
use native.Mathlib.Nat.{le_refl}
use mathlib.Core.Path.{◌≡◌, sym}
use mathlib.Core.Bool.{Bool, false}
use mathlib.Core.Logic.{⊎_elim}
use lib.IntN.{pos}
use lib.Signed.{lt_z}
use lib.ListN.{get_or}
use mir.Syntax.{w64}
use mir.Val.{to_z, of_z}
use mir.Facts.{to_z-of_z}
use Rattle.keys.proofs.Bits.{back}
use Rattle.ranges.proofs.Spans.{first-unique, lt-or-ge}
use borrow.Author.Rules.{rules}
use Rattle.run_calls.proofs.walk.Statement.{statement}
use Rattle.run_calls.proofs.walk.Tie as tie

abbrev invariant-loop : tie.invariant-loop-run
invariant-loop starts target from last run₀ run = (from ≤ run) × (run ≤ last) × ((j : ℕ) → from ≤ j → j < run → lt_z (to_z w64 target) (get_or starts (suc j) (pos 0)) ≡ false)

abbrev decreases-loop : tie.decreases-loop-run
decreases-loop starts target from last run₀ run = last - run

abbrev above : tie.Start invariant-loop decreases-loop → ℕ → Bool
above s k = lt_z s.args.target (get_or s.args.starts.now (suc k) (pos 0))

passed : (c : tie.At-loop-run invariant-loop decreases-loop) (j : ℕ) → c.args.from ≤ j → j < c.loop-run.run → above c.before j ≡ false
passed c = rw (to_z-of_z c.ranges.target) at c.loop-run.invariant.2

-- the start that is read
of-start : (c : tie.After-start-1 invariant-loop decreases-loop) → let v = get_or c.args.starts.now (c.loop-run.run + 1) (pos 0) in to_z w64 (of_z w64 v) ≡ v
of-start c = back w64 (get_or c.args.starts.now (c.loop-run.run + 1) (pos 0)) c.start-1.given

loop-holds : tie.Need-loop-run-init invariant-loop decreases-loop
loop-holds c = (le_refl _, c.requires.0, λ j a b. absurd (omega arith))

add_start : tie.Need-overflow_add-start invariant-loop decreases-loop
add_start c = search rules

mul-start : tie.Need-offset_bounds-starts-run invariant-loop decreases-loop
mul-start c = search rules

shared-slice-copy-out-start : tie.Need-bounds-starts-run invariant-loop decreases-loop
shared-slice-copy-out-start c = omega (arith, c.loop-run-test.true, c.requires.1)

returns : tie.Need-returns-then-target-start invariant-loop decreases-loop
returns c =
    let l = c.before.before.before in
    let n : suc l.loop-run.run ≡ l.loop-run.run + 1 = omega arith in
    sym (first-unique (above l.before) l.args.from _ l.loop-run.run l.loop-run.invariant.0 l.loop-run.invariant.1 (passed l)
    (λ _. rw n (rw (to_z-of_z l.ranges.target, of-start c.before) at c.if-target-start.true)))

add-run : tie.Need-overflow_add-run invariant-loop decreases-loop
add-run c = search rules

loop-less : tie.Need-loop-run-smaller invariant-loop decreases-loop
loop-less c = search rules

loop-again : tie.Need-loop-run-preserved invariant-loop decreases-loop
loop-again c =
    let l = c.before.before.before in (
      omega (arith, l.loop-run.invariant.0),
      omega (arith, c.loop-run-test.true),
      λ j a b. ⊎_elim
          (λ (g : j < l.loop-run.run). l.loop-run.invariant.2 j a g)
          (λ (g : l.loop-run.run ≤ j). let n : suc j ≡ l.loop-run.run + 1 = omega arith in rw n (rw (of-start c.before) at c.if-target-start.false))
          (lt-or-ge j l.loop-run.run),
    )

returns-2 : tie.Need-returns invariant-loop decreases-loop
returns-2 c =
    let l = c.before in
    sym (first-unique (above l.before) l.args.from _ l.loop-run.run l.loop-run.invariant.0 l.loop-run.invariant.1 (passed l) (λ m. absurd (omega (arith, c.loop-run-test.false))))

pub walk_spec : {M : Type 1} → statement M
walk_spec = tie.close (tie.spec invariant-loop decreases-loop loop-holds add_start mul-start shared-slice-copy-out-start returns add-run loop-less loop-again returns-2)
