-- `answered` meets its contract: none of the targets passed is above the last element. Assumes nothing.
use Prim.Native.Nat.{ℕ, ◌-◌, ◌≤◌, ◌<◌}
use native.Mathlib.Omega.{arith}
use mathlib.Core.Path.{◌≡◌, sym}
use mathlib.Core.Bool.{Bool, false}
use lib.IntN.{pos}
use lib.Signed.{lt_z}
use lib.ListN.{length, get_or}
use mir.Syntax.{w64}
use mir.Val.{to_z, of_z}
use mir.Facts.{to_z-of_z}
use borrow.Author.Count.{below_more}
use Rattle.keys.proofs.Bits.{back}
use Rattle.ranges.proofs.Spans.{first-unique}
use borrow.Author.Rules.{rules}
use Rattle.run_calls.proofs.answered.Statement.{statement}
use Rattle.run_calls.proofs.answered.Tie as tie

abbrev invariant-loop : tie.invariant-loop-k
invariant-loop targets most k₀ k = (k ≤ length targets) × ((j : ℕ) → j < k → lt_z (to_z w64 most) (get_or targets j (pos 0)) ≡ false)

abbrev decreases-loop : tie.decreases-loop-k
decreases-loop targets most k₀ k = length targets - k

abbrev above : tie.Start invariant-loop decreases-loop → ℕ → Bool
above s k = lt_z s.args.most (get_or s.args.targets.now k (pos 0))

passed : (c : tie.At-loop-k invariant-loop decreases-loop) (j : ℕ) → j < c.loop-k.k → above c.before j ≡ false
passed c = rw (to_z-of_z c.ranges.most) at c.loop-k.invariant.1

loop-holds : tie.Need-loop-k-init invariant-loop decreases-loop
loop-holds c = (omega arith, λ j l. absurd (omega arith))

mul-target : tie.Need-offset_bounds-targets-k invariant-loop decreases-loop
mul-target c = search rules

shared-slice-copy-out-target : tie.Need-bounds-targets-k invariant-loop decreases-loop
shared-slice-copy-out-target c = search rules

-- the target that is read
of-target : (c : tie.After-target-1 invariant-loop decreases-loop) → let v = get_or c.args.targets.now c.loop-k.k (pos 0) in to_z w64 (of_z w64 v) ≡ v
of-target c = back w64 (get_or c.args.targets.now c.loop-k.k (pos 0)) c.target-1.given

returns : tie.Need-returns-then-most-target invariant-loop decreases-loop
returns c =
    let l = c.before.before.before in
    sym (first-unique (above l.before) 0 _ l.loop-k.k (omega arith) (omega arith) (λ j _ m. passed l j m) (λ _. rw (to_z-of_z l.ranges.most, of-target c.before) at c.if-most-target.true))

add-k : tie.Need-overflow_add-k invariant-loop decreases-loop
add-k c = search rules

loop-less : tie.Need-loop-k-smaller invariant-loop decreases-loop
loop-less c = search rules

loop-again : tie.Need-loop-k-preserved invariant-loop decreases-loop
loop-again c =
    let l = c.before.before.before in
    (omega arith, below_more _ l.loop-k.k l.loop-k.invariant.1 (rw (of-target c.before) at c.if-most-target.false))

returns-2 : tie.Need-returns invariant-loop decreases-loop
returns-2 c =
    let l = c.before in
    sym (first-unique (above l.before) 0 _ l.loop-k.k (omega arith) (omega arith) (λ j _ m. passed l j m) (λ m. absurd (omega arith)))

pub answered_spec : {M : Type 1} → statement M
answered_spec = tie.close (tie.spec invariant-loop decreases-loop loop-holds mul-target shared-slice-copy-out-target returns add-k loop-less loop-again returns-2)
