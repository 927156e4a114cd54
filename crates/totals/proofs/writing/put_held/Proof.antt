-- `writing::put_held` meets its contract: what is to be held below place k is written. Assumes nothing.
use Prim.Native.Nat.{ℕ, ◌-◌, ◌≤◌}
use native.Mathlib.Omega.{arith}
use mathlib.Core.Path.{◌≡◌, refl, ap, ap₂, ◌∙◌}
use mathlib.Core.List.{List}
use lib.ListN.{length, get_or}
use lib.IntN.{ℤ, pos}
use mir.Syntax.{w64}
use Rattle.keys.proofs.Bits.{back}
use lib.Seq.{sets, length-sets}
use Rattle.meaning.specs.Parts.{joined, each}
use Rattle.meaning.proofs.Parts.{each_more, each-filled}
use Rattle.totals.specs.Inner.{held_of}
use Rattle.totals.proofs.Filling.{unwritten}
use borrow.Author.Rules.{rules}
use Rattle.totals.proofs.writing.put_held.Statement.{statement}
use Rattle.totals.proofs.writing.put_held.Tie as tie

abbrev held_at : List ℕ → List ℤ → List ℤ → ℕ → ℤ
held_at counts values old j = held_of (get_or counts j 0) (get_or values j (pos 0)) (get_or old j (pos 0))

abbrev invariant-loop : tie.invariant-loop-k
invariant-loop counts values out₀ k₀ out k = (k ≤ length counts) × (out ≡ sets out₀ 0 (each (held_at counts values out₀) k))

abbrev decreases-loop : tie.decreases-loop-k
decreases-loop counts values out₀ k₀ out k = length counts - k

long : (c : tie.At-loop-k invariant-loop decreases-loop) → length c.loop-k.out ≡ length c.args.out.now
long c =
    let a = c.args in
    ap length c.loop-k.invariant.1 ∙ length-sets a.out.now 0 (each (held_at a.counts.now a.values.now a.out.now) c.loop-k.k)

loop-holds : tie.Need-loop-k-init invariant-loop decreases-loop
unfolding joined
loop-holds c = (omega arith, refl)

mul-held : tie.Need-offset_bounds-counts-k invariant-loop decreases-loop
mul-held c = search rules

shared-slice-read-held : tie.Need-bounds-counts-k invariant-loop decreases-loop
shared-slice-read-held c = search rules

mul-held-2 : tie.Need-offset_bounds-values-k invariant-loop decreases-loop
mul-held-2 c = search rules

shared-slice-copy-out-held : tie.Need-bounds-values-k invariant-loop decreases-loop
shared-slice-copy-out-held c = search rules

mul-held-3 : tie.Need-offset_bounds-out-k invariant-loop decreases-loop
mul-held-3 c = search rules

slice-copy-out-held : tie.Need-slice_copy_out-held invariant-loop decreases-loop
slice-copy-out-held c =
    let l = c.before.before.before in
    omega (arith, long l, l.requires.1)

held-requires : tie.Need-held-requires invariant-loop decreases-loop
held-requires c κs = search rules

mul-t16 : tie.Need-offset_bounds-out-k-in-loop-k invariant-loop decreases-loop
mul-t16 c = search rules

slice-set-from-out : tie.Need-bounds-out-k invariant-loop decreases-loop
slice-set-from-out c =
    let t = c.before.before.before in
    let l = t.before.before in
    omega (arith, long l, l.requires.1)

add-k : tie.Need-overflow_add-k invariant-loop decreases-loop
add-k c = search rules

loop-less : tie.Need-loop-k-smaller invariant-loop decreases-loop
loop-less c = search rules

loop-again : tie.Need-loop-k-preserved invariant-loop decreases-loop
loop-again c =
    let t = c.before.before.before in
    let l = t.before.before in
    let s = l.before.before in (
      omega arith,
      each_more (held_at s.args.counts.now s.args.values.now s.args.out.now) l.loop-k.out s.args.out.now l.loop-k.k _ l.loop-k.invariant.1
          (back w64 c.held.result c.held.type_inv ∙ c.held.ensures
          ∙ ap₂ (held_of (get_or s.args.counts.now l.loop-k.k 0)) (back w64 _ c.held-arg-1.given)
          (back w64 _ c.held-arg-in-loop-k-1.given ∙ unwritten (held_at s.args.counts.now s.args.values.now s.args.out.now) (pos 0) l.loop-k.out s.args.out.now l.loop-k.k (omega (arith, l.loop-k.invariant.0, s.requires.1)) l.loop-k.invariant.1)),
    )

same_length : tie.Need-shape_of-out invariant-loop decreases-loop
same_length c = long c.before

returns : tie.Need-returns invariant-loop decreases-loop
returns c = let l = c.before in
    let s = l.before.before in
    each-filled _ l.loop-k.out s.args.out.now l.loop-k.k (length s.args.counts.now) (omega (arith, l.loop-k.invariant.0)) (omega (arith, l.loop-k.invariant.0, s.requires.1)) l.loop-k.invariant.1

pub put_held_spec : {M : Type 1} → statement M
put_held_spec = tie.close (tie.spec invariant-loop decreases-loop loop-holds mul-held shared-slice-read-held mul-held-2 shared-slice-copy-out-held mul-held-3 slice-copy-out-held held-requires mul-t16 slice-set-from-out add-k loop-less loop-again same_length returns)
