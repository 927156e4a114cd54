-- `end_plain` meets its contract. The loop's invariant: the values from a on to before i are in the run. Assumes nothing.
use Rattle.std.proofs.Common.{◌≡◌, ℕ, ◌+◌, ◌-◌, ◌≤◌, length, ℤ, ◌-ℤ◌, sym, refl, ap, ◌∙◌, arith, to_z-of_z, w16, w64, to_z, rules}
use borrow.Author.Tests.{not-false}
use Rattle.keys.proofs.Bits.{back}
use Rattle.ranges.proofs.Bools.{not-no}
use Rattle.meaning.specs.Sequence.{same_z}
use Rattle.build.specs.Rule.{Run}
use Rattle.build.specs.Inner.{open_at, value_at}
use Rattle.build.proofs.First.{open_done, open-parted, open_more}
use Rattle.build.proofs.end_plain.Statement.{statement}
use Rattle.build.proofs.end_plain.Tie as tie

abbrev invariant-loop : tie.invariant-loop-i
invariant-loop values a step i₀ i = (a + 2 ≤ i) × (i ≤ length values) × (open_at values a (to_z w16 step) (a + 2) ≡ open_at values a (to_z w16 step) i)

abbrev decreases-loop : tie.decreases-loop-i
decreases-loop values a step i₀ i = length values - i

-- the places: the loop, and in it
abbrev in-loop : tie.After-continues invariant-loop decreases-loop → tie.In-loop-i invariant-loop decreases-loop
in-loop c = c.before.before.before

abbrev here : tie.After-continues invariant-loop decreases-loop → tie.At-loop-i invariant-loop decreases-loop
here c = (in-loop c).before

-- the value at an index that the loop has reached
abbrev value : tie.At-loop-i invariant-loop decreases-loop → ℕ → ℤ
value l i = value_at l.before.args.values.now i

-- the call's answer, and the invariant, at the numbers themselves
told : (c : tie.After-continues invariant-loop decreases-loop) → c.continues.result ≡ same_z (value (here c) (here c).loop-i.i -ℤ value (here c) ((here c).loop-i.i - 1)) (here c).before.args.step
told c = rw (
  back w64 (value (here c) ((here c).loop-i.i - 1)) c.continues-arg-1.given,
  back w64 (value (here c) (here c).loop-i.i) c.continues-arg-in-loop-i-1.given,
  to_z-of_z (here c).before.ranges.step,
) at c.continues.ensures

is : (c : tie.At-loop-i invariant-loop decreases-loop) → open_at c.args.values.now c.args.a c.args.step (c.args.a + 2) ≡ open_at c.args.values.now c.args.a c.args.step c.loop-i.i
is c = rw (to_z-of_z c.ranges.step) at c.loop-i.invariant.2

add-i : tie.Need-overflow_add-i invariant-loop decreases-loop
add-i c = search rules

loop-holds : tie.Need-loop-i-init invariant-loop decreases-loop
loop-holds c = (omega arith, omega arith, refl)

sub-continues : tie.Need-overflow_sub-i invariant-loop decreases-loop
sub-continues c = search rules

mul-continues : tie.Need-offset_bounds-values-i invariant-loop decreases-loop
mul-continues c = search rules

shared-slice-copy-out-continues : tie.Need-bounds-values-i invariant-loop decreases-loop
shared-slice-copy-out-continues c = search rules

mul-continues-2 : tie.Need-offset_bounds-values-i-in-loop-i invariant-loop decreases-loop
mul-continues-2 c = search rules

shared-slice-copy-out-continues-2 : tie.Need-bounds-values-i-in-loop-i invariant-loop decreases-loop
shared-slice-copy-out-continues-2 c = search rules

continues-requires : tie.Need-continues-requires invariant-loop decreases-loop
continues-requires c κs = search rules

returns : tie.Need-returns-then-not-continues invariant-loop decreases-loop
returns c =
    let l = here c.before in
    let a = l.args in
    let e = open-parted a.values.now a.a a.step l.loop-i.i l.loop-i.invariant.0 (in-loop c.before).loop-i-test.true (sym (told c.before) ∙ not-no _ c.if-not-continues.true-raw) in
    (omega (arith, ap (λ (r : Run). r.count) (is l), e, l.loop-i.invariant.0), l.loop-i.invariant.1)

add-i-2 : tie.Need-overflow_add-i-in-loop-i invariant-loop decreases-loop
add-i-2 c = search rules

loop-less : tie.Need-loop-i-smaller invariant-loop decreases-loop
loop-less c = search rules

loop-again : tie.Need-loop-i-preserved invariant-loop decreases-loop
loop-again c =
    let l = here c.before in
    let a = l.args in
    let i = in-loop c.before in (
      omega (arith, l.loop-i.invariant.0),
      omega (arith, i.loop-i-test.true),
      rw (to_z-of_z l.ranges.step) (is l ∙ open_more a.values.now a.a a.step l.loop-i.i l.loop-i.invariant.0 i.loop-i-test.true (sym (told c.before) ∙ not-false _ c.if-not-continues.false-raw)),
    )

returns-2 : tie.Need-returns invariant-loop decreases-loop
returns-2 c =
    let l = c.before in
    let a = l.args in
    let e = open_done a.values.now a.a a.step l.loop-i.i l.loop-i.invariant.0 c.loop-i-test.false in
    (omega (arith, ap (λ (r : Run). r.count) (is l), e, l.loop-i.invariant.0), l.loop-i.invariant.1)

pub end_plain_spec : {M : Type 1} → statement M
end_plain_spec = tie.close (tie.spec invariant-loop decreases-loop add-i loop-holds sub-continues mul-continues shared-slice-copy-out-continues mul-continues-2 shared-slice-copy-out-continues-2 continues-requires returns add-i-2 loop-less loop-again returns-2)
