-- `mark` meets its contract: after each turn the array's front holds the marks so far. Assumes nothing.
use Prim.Native.Nat.{◌-◌, ◌≤◌}
use native.Mathlib.Omega.{arith}
use mathlib.Core.Path.{◌≡◌, refl, ap, ◌∙◌}
use mathlib.Core.List.{◌++◌}
use lib.ListN.{length, drop}
use lib.Seq.{sets, length-sets}
use Rattle.meaning.specs.Parts.{joined, each}
use Rattle.meaning.proofs.Parts.{each-length, each_more, each-filled}
use Rattle.presence.specs.Inner.{mark_at}
use borrow.Author.Rules.{rules}
use Rattle.presence.proofs.mark.Statement.{statement}
use Rattle.presence.proofs.mark.Tie as tie

abbrev invariant-loop : tie.invariant-loop-k
invariant-loop numbers values given flags₀ k₀ flags k = (k ≤ length numbers) × (flags ≡ sets flags₀ 0 (each (mark_at numbers values given) k))

abbrev decreases-loop : tie.decreases-loop-k
decreases-loop numbers values given flags₀ k₀ flags k = length numbers - k

loop-holds : tie.Need-loop-k-init invariant-loop decreases-loop
unfolding joined
loop-holds c = (omega arith, refl)

long : (c : tie.At-loop-k invariant-loop decreases-loop) → length c.loop-k.flags ≡ length c.args.flags.now
long c =
    let a = c.args in
    ap length c.loop-k.invariant.1 ∙ length-sets a.flags.now 0 (each (mark_at a.numbers.now a.values.now a.given) c.loop-k.k)

flag-requires : tie.Need-flag-requires invariant-loop decreases-loop
flag-requires c κs = (c.requires.0, c.loop-k-test.true)

slice-write-flags : tie.Need-bounds-flags-k invariant-loop decreases-loop
slice-write-flags c =
    let at_turn = c.before in
    let l = at_turn.before in
    omega (arith, long l, l.requires.1, at_turn.loop-k-test.true)

add-k : tie.Need-overflow_add-k invariant-loop decreases-loop
add-k c = search rules

loop-less : tie.Need-loop-k-smaller invariant-loop decreases-loop
loop-less c = search rules

loop-again : tie.Need-loop-k-preserved invariant-loop decreases-loop
loop-again c =
    let l = c.before.before in
    let a = l.args in
    (omega arith, each_more (mark_at a.numbers.now a.values.now a.given) l.loop-k.flags a.flags.now l.loop-k.k _ l.loop-k.invariant.1 c.flag.ensures)

same_length : tie.Need-shape_of-flags invariant-loop decreases-loop
same_length c = long c.before

returns : tie.Need-returns invariant-loop decreases-loop
returns c =
    let l = c.before in
    let s = l.before.before in
    let n = length s.args.numbers.now in
    let m = mark_at s.args.numbers.now s.args.values.now s.args.given in
    let k : l.loop-k.k ≡ n = omega (arith, l.loop-k.invariant.0) in
    each-filled m l.loop-k.flags s.args.flags.now l.loop-k.k n k (omega (arith, s.requires.1)) l.loop-k.invariant.1
    ∙ ap (λ i. each m n ++ drop i s.args.flags.now) (each-length m n)

pub mark_spec : {M : Type 1} → statement M
mark_spec = tie.close (tie.spec invariant-loop decreases-loop loop-holds flag-requires slice-write-flags add-k loop-less loop-again same_length returns)
