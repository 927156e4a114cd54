-- `writing::fill` meets its contract: the first i places hold the first i numbers. Assumes nothing.
use Prim.Native.Nat.{◌+◌, ◌*◌, ◌-◌, ◌≤◌}
use native.Mathlib.Omega.{arith}
use native.Mathlib.Nat.{mul-le-mul_left}
use mathlib.Core.Path.{◌≡◌, refl, ap, ◌∙◌}
use lib.ListN.{length}
use lib.Seq.{sets, length-sets}
use Rattle.meaning.specs.Parts.{joined}
use Rattle.meaning.proofs.Parts.{each_more}
use Rattle.profiles.specs.Inner.{stepped}
use Rattle.profiles.proofs.Filling.{next-step, all-stored}
use borrow.Author.Rules.{rules}
use Rattle.profiles.proofs.writing.fill.Statement.{statement}
use Rattle.profiles.proofs.writing.fill.Tie as tie

abbrev invariant-loop : tie.invariant-loop-i
invariant-loop out₀ value step next₀ i₀ out next i = (i ≤ length out₀) × (next ≡ value + step * i) × (out ≡ sets out₀ 0 (stepped value step i))

abbrev decreases-loop : tie.decreases-loop-i
decreases-loop out₀ value step next₀ i₀ out next i = length out₀ - i

loop-holds : tie.Need-loop-i-init invariant-loop decreases-loop
unfolding joined
loop-holds c = (omega arith, omega arith, refl)

module _ (c : tie.At-loop-i invariant-loop decreases-loop) where
  abbrev st : tie.Start invariant-loop decreases-loop
  st = c.before

  long : length c.loop-i.out ≡ length st.args.out.now
  long = ap length c.loop-i.invariant.2 ∙ length-sets st.args.out.now 0 (stepped st.args.value st.args.step c.loop-i.i)

mul-out : tie.Need-offset_bounds-out-i invariant-loop decreases-loop
mul-out c = search rules

slice-write-out : tie.Need-bounds-out-i invariant-loop decreases-loop
slice-write-out c = search rules

add-next : tie.Need-overflow_add-next invariant-loop decreases-loop
add-next c =
    let a = c.before in
    let s = st a in
    let g : s.args.step * (a.loop-i.i + 1) ≤ s.args.step * length s.args.out.now = mul-le-mul_left s.args.step (omega (arith, long a)) in
    record { fits = omega (arith, next-step s.args.value s.args.step a.loop-i.i) }

add-i : tie.Need-overflow_add-i invariant-loop decreases-loop
add-i c = search rules

loop-less : tie.Need-loop-i-smaller invariant-loop decreases-loop
loop-less c = omega (arith, long c.before)

loop-again : tie.Need-loop-i-preserved invariant-loop decreases-loop
loop-again c =
    let a = c.before in
    let s = st a in (
      omega (arith, long a),
      omega (arith, next-step s.args.value s.args.step a.loop-i.i),
      each_more (λ k. s.args.value + s.args.step * k) a.loop-i.out s.args.out.now a.loop-i.i _ a.loop-i.invariant.2 a.loop-i.invariant.1,
    )

same_length : tie.Need-shape_of-out invariant-loop decreases-loop
same_length c = long c.before

returns : tie.Need-returns invariant-loop decreases-loop
returns c =
    let a = c.before in
    let s = st a in
    let e : a.loop-i.i ≡ length s.args.out.now = omega (arith, long a) in
    a.loop-i.invariant.2 ∙ ap (λ k. sets s.args.out.now 0 (stepped s.args.value s.args.step k)) e ∙ all-stored (λ k. s.args.value + s.args.step * k) s.args.out.now

pub fill_spec : {M : Type 1} → statement M
fill_spec = tie.close (tie.spec invariant-loop decreases-loop loop-holds mul-out slice-write-out add-next add-i loop-less loop-again same_length returns)
