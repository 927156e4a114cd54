-- `writing::fill_gaps` meets its contract: the first k gaps are filled. Assumes nothing.
use Prim.Native.Nat.{◌+◌, ◌*◌, ◌-◌, ◌≤◌}
use mathlib.Core.Path.{◌≡◌, refl, sym, ap, ◌∙◌}
use mathlib.Core.List.{[], ◌++◌, append-nil}
use native.Mathlib.Omega.{arith}
use native.Mathlib.Nat.{mul-add, mul-le-mul_left}
use lib.ListN.{length, take, drop, drop_of_length-le}
use Rattle.meaning.specs.Parts.{joined}
use Rattle.meaning.proofs.Paste.{front_length}
use Rattle.profiles.specs.Inner.{stepped, between}
use Rattle.profiles.proofs.Filling.{lent_length, lent_back, between-length, between_next, gaps-room}
use borrow.Author.Rules.{rules}
use Rattle.profiles.proofs.writing.fill_gaps.Statement.{statement}
use Rattle.profiles.proofs.writing.fill_gaps.Tie as tie

abbrev invariant-loop : tie.invariant-loop-k
invariant-loop out₀ first step gaps wide at₀ value₀ k₀ out at value k = (k ≤ gaps) × (at ≡ (step - 1) * k) × (value ≡ first + step * k + 1) × (out ≡ between first step k ++ drop at out₀)

abbrev decreases-loop : tie.decreases-loop-k
decreases-loop out₀ first step gaps wide at₀ value₀ k₀ out at value k = gaps - k

module _ (c : tie.At-loop-k invariant-loop decreases-loop) where
  abbrev st : tie.Start invariant-loop decreases-loop
  st = c.before.before

  front : length (between st.args.first st.args.step c.loop-k.k) ≡ c.loop-k.at
  front = between-length st.args.first st.args.step c.loop-k.k ∙ sym c.loop-k.invariant.1

  within : c.loop-k.at ≤ length st.args.out.now
  within =
      let g : (st.args.step - 1) * c.loop-k.k ≤ (st.args.step - 1) * st.args.gaps = mul-le-mul_left (st.args.step - 1) c.loop-k.invariant.0 in
      omega (arith, c.loop-k.invariant.1, st.requires.1)

  long : length c.loop-k.out ≡ length st.args.out.now
  long = front_length (between st.args.first st.args.step c.loop-k.k) st.args.out.now c.loop-k.at front c.loop-k.out c.loop-k.invariant.3 within

-- in a turn
module _ (c : tie.In-loop-k invariant-loop decreases-loop) where
  abbrev at : tie.At-loop-k invariant-loop decreases-loop
  at = c.before

  room : at.loop-k.at + ((st at).args.step - 1) ≤ length (st at).args.out.now
  room = omega (arith, at.loop-k.invariant.1, (st at).requires.1, gaps-room ((st at).args.step - 1) at.loop-k.k (st at).args.gaps c.loop-k-test.true)

  lent : length (take (at.loop-k.at + ((st at).args.step - 1) - at.loop-k.at) (drop at.loop-k.at at.loop-k.out)) ≡ (st at).args.step - 1
  lent = lent_length (between (st at).args.first (st at).args.step at.loop-k.k) (st at).args.out.now at.loop-k.at (front at) at.loop-k.out at.loop-k.invariant.3
      (at.loop-k.at + ((st at).args.step - 1)) ((st at).args.step - 1) refl room

  reach : (st at).args.step * at.loop-k.k ≤ (st at).args.step * (st at).args.gaps
  reach = mul-le-mul_left (st at).args.step at.loop-k.invariant.0

  small : at.loop-k.value ≤ 4294967295
  small = omega (arith, reach, at.loop-k.invariant.2, (st at).requires.2)

sub_wide : tie.Need-overflow_sub-wide invariant-loop decreases-loop
sub_wide c = search rules

add-value : tie.Need-overflow_add-value invariant-loop decreases-loop
add-value c = omega arith

loop-holds : tie.Need-loop-k-init invariant-loop decreases-loop
unfolding joined
loop-holds c = (omega arith, omega arith, omega arith, refl)

add-next : tie.Need-overflow_add-next invariant-loop decreases-loop
add-next c = omega (arith, room c, (st (at c)).well_formed)

mul-fill : tie.Need-offset_bounds-out-at invariant-loop decreases-loop
mul-fill c = omega (arith, within (at c), (st (at c)).well_formed)

sub-fill : tie.Need-slice_bounds-fill-count invariant-loop decreases-loop
sub-fill c = omega arith

part-fill-start : tie.Need-slice_bounds-fill-start invariant-loop decreases-loop
part-fill-start c = omega arith

part-fill-end : tie.Need-slice_bounds-fill-end invariant-loop decreases-loop
part-fill-end c = omega (arith, room c, long (at c))

fill-requires : tie.Need-fill-requires invariant-loop decreases-loop
fill-requires c κs = let t = c.before in omega (arith, lent t, small t, (st (at t)).requires.3)

add-value-2 : tie.Need-overflow_add-value-in-loop-k invariant-loop decreases-loop
add-value-2 c =
    let t = c.before.before.before in
    omega (arith, small t.before, (st (at t.before)).requires.3)

add-k : tie.Need-overflow_add-k invariant-loop decreases-loop
add-k c = search rules

loop-less : tie.Need-loop-k-smaller invariant-loop decreases-loop
loop-less c = search rules

loop-again : tie.Need-loop-k-preserved invariant-loop decreases-loop
loop-again c =
    let f = c.before.before in
    let t = f.before.before in
    let a = at t in
    let s = st a in
    let e = a.loop-k.at + (s.args.step - 1) in (
      omega arith,
      omega (arith, a.loop-k.invariant.1, mul-add (s.args.step - 1) a.loop-k.k 1),
      omega (arith, a.loop-k.invariant.2, mul-add s.args.step a.loop-k.k 1),
      lent_back (between s.args.first s.args.step a.loop-k.k) s.args.out.now a.loop-k.at (front a) a.loop-k.out a.loop-k.invariant.3 e (s.args.step - 1) refl (room t) _ (stepped a.loop-k.value 1) f.fill.ensures
          ∙ ap (λ v. (between s.args.first s.args.step a.loop-k.k ++ stepped v 1 (s.args.step - 1)) ++ drop e s.args.out.now) a.loop-k.invariant.2
          ∙ ap (λ x. x ++ drop e s.args.out.now) (between_next s.args.first s.args.step a.loop-k.k),
    )

same_length : tie.Need-shape_of-out invariant-loop decreases-loop
same_length c = long c.before

returns : tie.Need-returns invariant-loop decreases-loop
returns c =
    let a = c.before in
    let s = st a in
    let e : a.loop-k.k ≡ s.args.gaps = omega arith in
    let z : drop a.loop-k.at s.args.out.now ≡ [] = drop_of_length-le s.args.out.now {i = a.loop-k.at} (omega (arith, a.loop-k.invariant.1, ap (λ x. (s.args.step - 1) * x) e, s.requires.1)) in
    a.loop-k.invariant.3 ∙ ap (λ l. between s.args.first s.args.step a.loop-k.k ++ l) z ∙ append-nil (between s.args.first s.args.step a.loop-k.k) ∙ ap (between s.args.first s.args.step) e

pub fill_gaps_spec : {M : Type 1} → statement M
fill_gaps_spec = tie.close (tie.spec invariant-loop decreases-loop sub_wide add-value loop-holds add-next mul-fill sub-fill part-fill-start part-fill-end fill-requires add-value-2 add-k loop-less loop-again same_length returns)
