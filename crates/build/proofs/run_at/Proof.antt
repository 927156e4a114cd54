-- `run_at` meets its contract: one value is left, the second has no step, or it joins. Assumes nothing.
use Rattle.std.proofs.Common.{◌≡◌, ◌+◌, ◌<◌, ◌≤◌, true, false, List, length, ℤ, pos, ◌-ℤ◌, sym, ap, ◌∙◌, arith, w16, w64, to_z, of_z, rules, lt-ltb}
use borrow.Author.Tests.{not-false}
use lib.Signed.{mag}
use mir.Facts.{to_z_pos}
use Rattle.keys.specs.Key.{unkey}
use Rattle.keys.specs.Widths.{fits_in, half16}
use Rattle.keys.proofs.Bits.{back}
use Rattle.keys.proofs.Keys.{mag-unkey}
use Rattle.keys.proofs.Widths.{in-mag}
use Rattle.ranges.proofs.Bools.{either, clash, not-no}
use Rattle.meaning.specs.Sequence.{same_z}
use Rattle.build.specs.Rule.{Run, begun}
use Rattle.build.specs.Inner.{value_at, first_at, open_at}
use Rattle.build.proofs.Rule.{same-yes, same_self}
use Rattle.build.proofs.First.{first-last, first_alone, first_two, open_step}
use Rattle.build.proofs.run_at.Statement.{statement}
use Rattle.build.proofs.run_at.Tie as tie

abbrev values : tie.Start → List ℤ
values s = s.args.values.now

-- the places where there is a second value, and where it may be near
abbrev two-there : tie.After-near-shifted → tie.Else-next-values
two-there c = c.before.before.before

abbrev close : tie.After-continues → tie.Else-shifted-gt65535
close c = c.before.before.before

-- the first two values of the run
abbrev one : tie.Else-next-values → ℤ
one c = value_at (values c.before) c.args.a

abbrev two : tie.Else-next-values → ℤ
two c = value_at (values c.before) (c.args.a + 1)

-- what the two calls tell, at the numbers themselves
found : (c : tie.After-near-shifted) → fits_in half16 (two (two-there c) -ℤ one (two-there c)) ≡ true → (c.near-shifted.result ≤ 65535) × (unkey half16 c.near-shifted.result ≡ two (two-there c) -ℤ one (two-there c))
found c = rw (back w64 (one (two-there c)) c.near-arg-1.given, back w64 (two (two-there c)) c.near-arg-2-1.given) at c.near-shifted.ensures

-- the step, where it may be one
abbrev step : tie.Else-shifted-gt65535 → ℤ
step c = unkey half16 c.near-shifted.result

small : (c : tie.Else-shifted-gt65535) → mag (step c) < half16
small c = mag-unkey half16 c.near-shifted.result (omega (arith, c.if-shifted-gt65535.false))

widened : (c : tie.Else-shifted-gt65535) → to_z w64 c.near-shifted.result -ℤ pos 32768 ≡ step c
widened c = ap (λ z. z -ℤ pos 32768) (to_z_pos w64 {n = c.near-shifted.result} (omega (arith, c.if-shifted-gt65535.false)))

cast_is : (c : tie.Else-shifted-gt65535) → to_z w64 (of_z w64 (to_z w64 c.near-shifted.result -ℤ pos 32768)) ≡ step c
cast_is c = rw (widened c) (back w64 (step c) (omega (arith, small c)))

step_is : (c : tie.Else-shifted-gt65535) → to_z w16 (of_z w16 (to_z w64 (of_z w64 (to_z w64 c.near-shifted.result -ℤ pos 32768)))) ≡ step c
step_is c = rw (cast_is c) (back w16 (step c) (small c))

told : (c : tie.After-continues) → c.continues.result ≡ same_z (two (two-there (close c).before) -ℤ one (two-there (close c).before)) (step (close c))
told c =
    let d = two-there (close c).before in
    rw (back w64 (one d) c.continues-arg-1.given, back w64 (two d) c.continues-arg-2-1.given, step_is (close c)) at c.continues.ensures

-- there is a second value
second : (c : tie.Else-next-values) → c.args.a + 1 < length (values c.before)
second c = omega (arith, c.requires.0, c.if-next-values.false)

-- it has no step: the run is this one value
alone : (c : tie.Else-next-values) → fits_in half16 (two c -ℤ one c) ≡ false
    → (c.args.a + 1 ≡ c.args.a + (first_at (values c.before) c.args.a).count)
    × ((pos 0 ≡ (first_at (values c.before) c.args.a).step) × (c.args.a + 1 ≤ length (values c.before)))
alone c h =
    let a = c.args.a in
    let e : first_at (values c.before) a ≡ begun (value_at (values c.before) a) = first_alone (values c.before) a (second c) h in
    (omega (arith, ap (λ (r : Run). r.count) e), (sym (ap (λ (r : Run). r.step) e), omega (arith, second c)))

add-next : tie.Need-overflow_add-next
add-next c = search rules

returns : tie.Need-returns-then-next-values
returns c =
    let a = c.args in
    let e : first_at (values c.before) a.a ≡ begun (value_at (values c.before) a.a) = first-last (values c.before) a.a (omega (arith, c.if-next-values.true)) in
    (omega (arith, ap (λ (r : Run). r.count) e), (sym (ap (λ (r : Run). r.step) e), omega (arith, c.if-next-values.true)))

mul-near : tie.Need-offset_bounds-values-a
mul-near c = search rules

shared-slice-copy-out-near : tie.Need-bounds-values-a
shared-slice-copy-out-near c = search rules

mul-near-2 : tie.Need-offset_bounds-values-next
mul-near-2 c = search rules

shared-slice-copy-out-near-2 : tie.Need-bounds-values-next
shared-slice-copy-out-near-2 c = search rules

near-requires : tie.Need-near-shifted-requires
near-requires c κs = search rules

returns-2 : tie.Need-returns-then-shifted-gt65535
returns-2 c =
    let d = two-there c.before in
    alone d (either (fits_in half16 (two d -ℤ one d)) (λ t. absurd (omega (arith, c.if-shifted-gt65535.true, (found c.before t).0))) (λ t. t))

cast-step : tie.Need-overflow_cast-step
cast-step c = record { sfits = omega (arith, c.if-shifted-gt65535.false) }

sub-step : tie.Need-overflow_sub-step
sub-step c = rw (widened c) (record { sfits = omega (arith, small c) })

cast-step-2 : tie.Need-overflow_cast-step-2
cast-step-2 c = rw (cast_is c) (record { sfits = small c })

mul-continues : tie.Need-offset_bounds-values-a-2
mul-continues c = search rules

shared-slice-copy-out-continues : tie.Need-bounds-values-a-2
shared-slice-copy-out-continues c = search rules

mul-continues-2 : tie.Need-offset_bounds-values-next-2
mul-continues-2 c = search rules

shared-slice-copy-out-continues-2 : tie.Need-bounds-values-next-2
shared-slice-copy-out-continues-2 c = search rules

continues-requires : tie.Need-continues-requires
continues-requires c κs = search rules

returns-3 : tie.Need-returns-then-not-continues
returns-3 c =
    let k = close c.before in
    let d = two-there k.before in
    let other : same_z (two d -ℤ one d) (step k) ≡ false = sym (told c.before) ∙ not-no _ c.if-not-continues.true-raw in
    alone d (either (fits_in half16 (two d -ℤ one d))
    (λ t. clash (ap (λ z. same_z (two d -ℤ one d) z) (found k.before t).1 ∙ same_self (two d -ℤ one d)) other)
    (λ t. t))

end-of-requires : tie.Need-end_of-end-requires
end-of-requires c κs = search rules

returns-4 : tie.Need-returns
returns-4 c =
    let on = c.before in
    let k = close on.before in
    let d = two-there k.before in
    let xs = values d.before in
    let a = d.args.a in
    let is : step k ≡ two d -ℤ one d = sym (same-yes (two d -ℤ one d) (step k) (sym (told on.before) ∙ not-false _ on.if-not-continues.false-raw)) in
    let e : first_at xs a ≡ open_at xs a (step k) (a + 2) = first_two xs a (second d) (step k) is (in-mag half16 (step k) ∙ lt-ltb (mag (step k)) half16 (small k)) in (
      rw (step_is k, sym e) at c.end_of-end.ensures.0,
      (step_is k ∙ sym (open_step xs a (step k) (a + 2) (omega arith)) ∙ sym (ap (λ (r : Run). r.step) e), c.end_of-end.ensures.1),
    )

pub run_at_spec : {M : Type 1} → statement M
run_at_spec = tie.close (tie.spec add-next returns mul-near shared-slice-copy-out-near mul-near-2 shared-slice-copy-out-near-2 near-requires returns-2 cast-step sub-step cast-step-2 mul-continues shared-slice-copy-out-continues mul-continues-2 shared-slice-copy-out-continues-2 continues-requires returns-3 end-of-requires returns-4)
