-- `end_inside` meets its contract. The loop's invariant: the values from a on to before i are in the run, and the last of them is no further from
-- the second than a step for each after it. Assumes nothing.
use Rattle.std.proofs.Common.{◌≡◌, ◌+◌, ◌-◌, ◌*◌, ◌%◌, ◌<◌, ◌≤◌, length, ℤ, sym, refl, ap, ◌∙◌, arith, to_z-of_z, w16, w64, to_z, rules}
use lib.Signed.{mag}
use Rattle.keys.specs.Key.{key}
use Rattle.keys.specs.Widths.{half64}
use Rattle.keys.proofs.Bits.{back}
use Rattle.codec.specs.Bytes.{of_signed}
use Rattle.build.specs.Rule.{Run}
use Rattle.build.specs.Inner.{open_at, value_at}
use Rattle.build.proofs.First.{open_done, open-parted, open_more}
use Rattle.build.proofs.Steps.{other_step, inside-step}
use Rattle.build.proofs.end_inside.Statement.{statement}
use Rattle.build.proofs.end_inside.Tie as tie

abbrev invariant-loop : tie.invariant-loop-i
invariant-loop values a step d i₀ i = (a + 2 ≤ i) × (i ≤ length values) × (open_at values a (to_z w16 step) (a + 2) ≡ open_at values a (to_z w16 step) i)
    × (4611686018427387904 + 32768 * (a + 2) ≤ key half64 (value_at values (i - 1)) + 32768 * i)
    × (key half64 (value_at values (i - 1)) + 32768 * (a + 2) ≤ 13835058055282163712 + 32768 * i)

abbrev decreases-loop : tie.decreases-loop-i
decreases-loop values a step d i₀ i = length values - i

-- the places: the loop, and in it
abbrev in-loop : tie.After-wrapping_sub_u64 invariant-loop decreases-loop → tie.In-loop-i invariant-loop decreases-loop
in-loop c = let one = c.before.before.before in one.before.before

abbrev here : tie.After-wrapping_sub_u64 invariant-loop decreases-loop → tie.At-loop-i invariant-loop decreases-loop
here c = (in-loop c).before

abbrev start : tie.At-loop-i invariant-loop decreases-loop → tie.Start invariant-loop decreases-loop
start l = l.before.before

-- the value at an index that the loop has reached, and the one before
abbrev value : tie.At-loop-i invariant-loop decreases-loop → ℤ
value l = value_at (start l).args.values.now l.loop-i.i

abbrev last : tie.At-loop-i invariant-loop decreases-loop → ℤ
last l = value_at (start l).args.values.now (l.loop-i.i - 1)

-- the invariant, the patterns' difference and the step's pattern, at the numbers themselves
is : (l : tie.At-loop-i invariant-loop decreases-loop) → open_at (start l).args.values.now (start l).args.a (start l).args.step ((start l).args.a + 2) ≡ open_at (start l).args.values.now (start l).args.a (start l).args.step l.loop-i.i
is l = rw (to_z-of_z (start l).ranges.step) at l.loop-i.invariant.2

wrapped : (c : tie.After-wrapping_sub_u64 invariant-loop decreases-loop) → (c.wrapping_sub_u64.result + of_signed 8 (last (here c))) % 18446744073709551616 ≡ of_signed 8 (value (here c))
wrapped c =
    let there = c.before.before.before in
    ap (λ n. (c.wrapping_sub_u64.result + n) % 18446744073709551616) (ap (of_signed 8) (sym (back w64 (last (here c)) c.unsigned64-arg-in-loop-i-1.given)) ∙ sym c.unsigned64-in-loop-i.ensures)
    ∙ c.wrapping_sub_u64.ensures
    ∙ there.unsigned64.ensures
    ∙ ap (of_signed 8) (back w64 (value (here c)) there.unsigned64-arg-1.given)

-- the value at i is an i64
first-given : (c : tie.After-wrapping_sub_u64 invariant-loop decreases-loop) → mag (value (here c)) < half64
first-given c = let one = c.before.before.before in one.unsigned64-arg-1.given

of-step : (c : tie.After-unsigned64-difference invariant-loop decreases-loop) → c.unsigned64-difference.result ≡ of_signed 8 c.args.step
of-step c =
    let s = c.before in
    c.unsigned64-difference.ensures ∙ ap (of_signed 8) (rw (to_z-of_z s.ranges.step) (back w64 s.args.step (omega (arith, s.ranges.step.sfits))))

cast-unsigned64 : tie.Need-overflow_cast-step invariant-loop decreases-loop
cast-unsigned64 c = rw (to_z-of_z c.ranges.step) (record { sfits = omega (arith, c.ranges.step.sfits) })

unsigned64-requires : tie.Need-unsigned64-difference-requires invariant-loop decreases-loop
unsigned64-requires c κs = search rules

add-i : tie.Need-overflow_add-i invariant-loop decreases-loop
add-i c = search rules

loop-holds : tie.Need-loop-i-init invariant-loop decreases-loop
loop-holds c =
    let s = c.before in
    let k : s.args.a + 2 - 1 ≡ s.args.a + 1 = omega arith in
    (omega arith, s.requires.0, refl, rw k (omega (arith, s.requires.1.1.0)), rw k (omega (arith, s.requires.1.1.1)))

mul-unsigned64 : tie.Need-offset_bounds-values-i invariant-loop decreases-loop
mul-unsigned64 c = search rules

shared-slice-copy-out-unsigned64 : tie.Need-bounds-values-i invariant-loop decreases-loop
shared-slice-copy-out-unsigned64 c = search rules

unsigned64-requires-2 : tie.Need-unsigned64-requires invariant-loop decreases-loop
unsigned64-requires-2 c κs = search rules

sub-unsigned64 : tie.Need-overflow_sub-i invariant-loop decreases-loop
sub-unsigned64 c = search rules

mul-unsigned64-2 : tie.Need-offset_bounds-values-i-in-loop-i invariant-loop decreases-loop
mul-unsigned64-2 c = search rules

shared-slice-copy-out-unsigned64-2 : tie.Need-bounds-values-i-in-loop-i invariant-loop decreases-loop
shared-slice-copy-out-unsigned64-2 c = search rules

unsigned64-requires-3 : tie.Need-unsigned64-requires-in-loop-i invariant-loop decreases-loop
unsigned64-requires-3 c κs = search rules

wrapping-sub-u64-requires : tie.Need-wrapping_sub_u64-requires invariant-loop decreases-loop
wrapping-sub-u64-requires c κs = search rules

returns : tie.Need-returns-then-wrapping_sub_u64-difference invariant-loop decreases-loop
returns c =
    let l = here c.before in
    let a = (start l).args in
    let w = c.before in
    let other = other_step (last l) (value l) w.unsigned64-arg-in-loop-i-1.given (first-given w) w.wrapping_sub_u64.result w.wrapping_sub_u64.type_inv (wrapped w) a.step
    (λ e. c.if-wrapping_sub_u64-difference.true (e ∙ sym (of-step l.before))) in
    let e = open-parted a.values.now a.a a.step l.loop-i.i l.loop-i.invariant.0 (in-loop w).loop-i-test.true (sym other) in
    (omega (arith, ap (λ (r : Run). r.count) (is l), e, l.loop-i.invariant.0), l.loop-i.invariant.1)

add-i-2 : tie.Need-overflow_add-i-in-loop-i invariant-loop decreases-loop
add-i-2 c = search rules

loop-less : tie.Need-loop-i-smaller invariant-loop decreases-loop
loop-less c = search rules

loop-again : tie.Need-loop-i-preserved invariant-loop decreases-loop
loop-again c =
    let l = here c.before in
    let a = (start l).args in
    let w = c.before in
    let i = in-loop w in
    let k : l.loop-i.i + 1 - 1 ≡ l.loop-i.i = omega arith in
    let on = inside-step (last l) (value l) w.unsigned64-arg-in-loop-i-1.given (first-given w) w.wrapping_sub_u64.result w.wrapping_sub_u64.type_inv (wrapped w) a.step (start l).ranges.step.sfits
    (omega (arith, l.loop-i.invariant.3, l.loop-i.invariant.1, (start l).requires.1.0)) (omega (arith, l.loop-i.invariant.4, l.loop-i.invariant.1, (start l).requires.1.0)) (c.if-wrapping_sub_u64-difference.false ∙ of-step l.before) in (
      omega (arith, l.loop-i.invariant.0),
      omega (arith, i.loop-i-test.true),
      rw (to_z-of_z (start l).ranges.step) (is l ∙ open_more a.values.now a.a a.step l.loop-i.i l.loop-i.invariant.0 i.loop-i-test.true on.0),
      rw k (omega (arith, on.1, l.loop-i.invariant.3)),
      rw k (omega (arith, on.2, l.loop-i.invariant.4)),
    )

returns-2 : tie.Need-returns invariant-loop decreases-loop
returns-2 c =
    let l = c.before in
    let a = (start l).args in
    let e = open_done a.values.now a.a a.step l.loop-i.i l.loop-i.invariant.0 c.loop-i-test.false in
    (omega (arith, ap (λ (r : Run). r.count) (is l), e, l.loop-i.invariant.0), l.loop-i.invariant.1)

pub end_inside_spec : {M : Type 1} → statement M
end_inside_spec = tie.close (tie.spec invariant-loop decreases-loop cast-unsigned64 unsigned64-requires add-i loop-holds mul-unsigned64 shared-slice-copy-out-unsigned64 unsigned64-requires-2 sub-unsigned64 mul-unsigned64-2 shared-slice-copy-out-unsigned64-2 unsigned64-requires-3 wrapping-sub-u64-requires returns add-i-2 loop-less loop-again returns-2)
