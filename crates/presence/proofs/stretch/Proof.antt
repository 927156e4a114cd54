-- `stretch` meets its contract: of the numbers passed none is below the one before. Assumes nothing.
use Prim.Native.Nat.{ℕ, suc, ◌-◌, ◌≤◌, ◌<◌}
use native.Mathlib.Omega.{arith}
use mathlib.Core.Path.{◌≡◌, refl}
use mathlib.Core.Bool.{false}
use mathlib.Core.Logic.{⊎_elim}
use lib.IntN.{pos}
use lib.Signed.{lt_z}
use lib.ListN.{length, get_or}
use mir.Syntax.{w64}
use native.Mathlib.Nat.{eq-or-lt_of_le}
use borrow.Author.Tests.{ltb-true}
use Rattle.keys.proofs.Bits.{back}
use Rattle.presence.specs.Inner.{Stretch}
use Rattle.presence.proofs.Marks.{up_first}
use borrow.Author.Rules.{rules}
use Rattle.presence.proofs.stretch.Statement.{statement}
use Rattle.presence.proofs.stretch.Tie as tie

abbrev invariant-loop : tie.invariant-loop-k
invariant-loop numbers n k₀ k = (0 < k) × (k ≤ 512) × (k ≤ length numbers) × ((j : ℕ) → suc j < k → lt_z (get_or numbers (suc j) (pos 0)) (get_or numbers j (pos 0)) ≡ false)

abbrev decreases-loop : tie.decreases-loop-k
decreases-loop numbers n k₀ k = 512 - k

returns : tie.Need-returns-then-n-eq0 invariant-loop decreases-loop
returns c = record { few = omega arith; inside = omega arith; some = λ l. absurd (omega (arith, c.if-n-eq0.true)); up = refl }

loop-holds : tie.Need-loop-k-init invariant-loop decreases-loop
loop-holds c = (omega arith, omega arith, omega (arith, c.if-n-eq0.false), λ j l. absurd (omega arith))

sub-last : tie.Need-overflow_sub-last invariant-loop decreases-loop
sub-last c = omega (arith, c.loop-k.invariant.0)

mul-last : tie.Need-offset_bounds-numbers-k invariant-loop decreases-loop
mul-last c = search rules

shared-slice-copy-out-last : tie.Need-bounds-numbers-k invariant-loop decreases-loop
shared-slice-copy-out-last c = search rules

mul-number : tie.Need-offset_bounds-numbers-k-in-loop-k invariant-loop decreases-loop
mul-number c = search rules

shared-slice-copy-out-number : tie.Need-bounds-numbers-k-in-loop-k invariant-loop decreases-loop
shared-slice-copy-out-number c = search rules

-- what is known where the loop stands
module _ (c : tie.At-loop-k invariant-loop decreases-loop) where
  so_far : Stretch c.args.numbers.now c.loop-k.k
  so_far =
      let v = c.loop-k.invariant in
      record { few = v.1; inside = v.2; some = λ _. v.0; up = up_first c.args.numbers.now c.loop-k.k v.2 v.3 }

returns-2 : tie.Need-returns-then-number-last invariant-loop decreases-loop
returns-2 c =
    let at_last = c.before.before in
    so_far at_last.before.before.before

add-k : tie.Need-overflow_add-k invariant-loop decreases-loop
add-k c = search rules

loop-less : tie.Need-loop-k-smaller invariant-loop decreases-loop
loop-less c =
    let at-then = c.before.before.before in
    omega (arith, ltb-true at-then.loop-k.k 512 at-then.if-k-lt512.true-raw)

loop-again : tie.Need-loop-k-preserved invariant-loop decreases-loop
loop-again c =
    let at-number = c.before in
    let at_last = at-number.before in
    let at-then = at_last.before in
    let l = at-then.before.before in
    let ks = l.args.numbers.now in
    let k = l.loop-k.k in
    let v = l.loop-k.invariant in (
      omega arith,
      omega (arith, ltb-true at-then.loop-k.k 512 at-then.if-k-lt512.true-raw),
      omega arith,
      λ j m. ⊎_elim
          (λ (e : suc (suc j) ≡ suc k).
          let i : suc j ≡ k = omega arith in
          let h : j ≡ k - 1 = omega arith in
          rw (i, h) (rw (back w64 (get_or ks k (pos 0)) at-number.number-1.given, back w64 (get_or ks (k - 1) (pos 0)) at_last.last-1.given) at c.if-number-last.false))
          (λ (b : suc (suc j) < suc k). v.3 j (omega arith))
          (eq-or-lt_of_le (omega arith)),
    )

returns-3 : tie.Need-returns-else-k-lt512 invariant-loop decreases-loop
returns-3 c = so_far c.before.before

returns-4 : tie.Need-returns-after-loop-k invariant-loop decreases-loop
returns-4 c = so_far c.before

pub stretch_spec : {M : Type 1} → statement M
stretch_spec = tie.close (tie.spec invariant-loop decreases-loop returns loop-holds sub-last mul-last shared-slice-copy-out-last mul-number shared-slice-copy-out-number returns-2 add-k loop-less loop-again returns-3 returns-4)
