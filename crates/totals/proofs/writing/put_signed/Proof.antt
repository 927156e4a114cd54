-- `writing::put_signed` meets its contract: the values below place k are written. Assumes nothing.
use Prim.Native.Nat.{◌-◌, ◌≤◌}
use native.Mathlib.Omega.{arith}
use mathlib.Core.Path.{◌≡◌, refl, ap, ◌∙◌}
use lib.ListN.{length, get_or}
use lib.IntN.{pos}
use mir.Syntax.{w64}
use Rattle.keys.proofs.Bits.{back}
use lib.Seq.{sets, length-sets}
use Rattle.meaning.specs.Parts.{joined, each}
use Rattle.meaning.proofs.Parts.{each_more}
use Rattle.totals.proofs.Filling.{filled-by}
use borrow.Author.Rules.{rules}
use Rattle.totals.proofs.writing.put_signed.Statement.{statement}
use Rattle.totals.proofs.writing.put_signed.Tie as tie

abbrev invariant-loop : tie.invariant-loop-k
invariant-loop values out₀ k₀ out k = (k ≤ length values) × (out ≡ sets out₀ 0 (each (λ j. get_or values j (pos 0)) k))

abbrev decreases-loop : tie.decreases-loop-k
decreases-loop values out₀ k₀ out k = length values - k

long : (c : tie.At-loop-k invariant-loop decreases-loop) → length c.loop-k.out ≡ length c.args.out.now
long c =
    let a = c.args in
    ap length c.loop-k.invariant.1 ∙ length-sets a.out.now 0 (each (λ k. get_or a.values.now k (pos 0)) c.loop-k.k)

loop-holds : tie.Need-loop-k-init invariant-loop decreases-loop
unfolding joined
loop-holds c = (omega arith, refl)

mul-out : tie.Need-offset_bounds-values-k invariant-loop decreases-loop
mul-out c = search rules

shared-slice-copy-out-out : tie.Need-bounds-values-k invariant-loop decreases-loop
shared-slice-copy-out-out c = search rules

mul-t8 : tie.Need-offset_bounds-out-k invariant-loop decreases-loop
mul-t8 c = search rules

slice-set-from-out : tie.Need-bounds-out-k invariant-loop decreases-loop
slice-set-from-out c = omega (arith, long c.before.before, c.requires)

add-k : tie.Need-overflow_add-k invariant-loop decreases-loop
add-k c = search rules

loop-less : tie.Need-loop-k-smaller invariant-loop decreases-loop
loop-less c = search rules

loop-again : tie.Need-loop-k-preserved invariant-loop decreases-loop
loop-again c = let l = c.before.before in
    let s = l.before in
    (omega arith, each_more (λ k. get_or s.args.values.now k (pos 0)) l.loop-k.out s.args.out.now l.loop-k.k _ l.loop-k.invariant.1 (back w64 _ c.out-1.given))

same_length : tie.Need-shape_of-out invariant-loop decreases-loop
same_length c = long c.before

returns : tie.Need-returns invariant-loop decreases-loop
returns c = let l = c.before in
    let s = l.before in
    filled-by (pos 0) s.args.values.now l.loop-k.out s.args.out.now l.loop-k.k (omega (arith, l.loop-k.invariant.0)) s.requires l.loop-k.invariant.1

pub put_signed_spec : {M : Type 1} → statement M
put_signed_spec = tie.close (tie.spec invariant-loop decreases-loop loop-holds mul-out shared-slice-copy-out-out mul-t8 slice-set-from-out add-k loop-less loop-again same_length returns)
