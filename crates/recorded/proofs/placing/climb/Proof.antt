-- `placing::climb` meets its contract: each way out says why. Assumes nothing.
use Prim.Native.Nat.{◌+◌, ◌*◌, ◌-◌, ◌<◌, ◌≤◌}
use mathlib.Core.Path.{◌≡◌, sym, ap, ap₂, ◌∙◌, subst, subst⁻¹}
use native.Mathlib.Omega.{arith}
use borrow.Author.Tests.{lt-ltb, le-ltb, not-true, not-false}
use lib.IntN.{nat_abs}
use mir.Facts.{to_z-of_z}
use Rattle.keys.specs.Key.{key}
use Rattle.keys.specs.Widths.{half64}
use Rattle.keys.proofs.Widths.{product_le}
use Rattle.recorded.specs.Inner.{rises_by, first_at, last_at}
use Rattle.recorded.proofs.Fitting.{below-floors, floor-test, climb-low, climb-flat, climb-past, climb-on}
use borrow.Author.Rules.{rules}
use Rattle.recorded.proofs.placing.climb.Statement.{statement}
use Rattle.recorded.proofs.placing.climb.Tie as tie

of-start : (c : tie.After-bias-from) → c.bias-from.result ≡ key half64 c.args.start
of-start c = c.bias-from.ensures ∙ ap (key half64) (to_z-of_z c.ranges.start)

-- at the floor's test: not below 0, and its first element
module _ (c : tie.Else-from-lt9223372036854775808) where
  above : half64 ≤ key half64 c.args.start
  above = subst (λ x. half64 ≤ x) (of-start c.before) c.if-from-lt9223372036854775808.false

  first-is : c.bias-from.result - 9223372036854775808 ≡ first_at c.args.start
  first-is = ap (λ x. x - 9223372036854775808) (of-start c.before)

-- whether it goes up
module _ (c : tie.After-goes_up) where
  abbrev above_floor : tie.Else-first-floor
  above_floor = c.before

  abbrev st-up : tie.Start
  st-up = above_floor.before.before.before

  of-up : c.goes_up.result ≡ rises_by st-up.args.step st-up.args.more
  of-up = c.goes_up.ensures ∙ ap (λ z. rises_by z st-up.args.more) (to_z-of_z st-up.ranges.step)

-- the last element
module _ (c : tie.After-size16) where
  abbrev up : tie.After-goes_up
  up = c.before.before

  abbrev low : tie.Else-from-lt9223372036854775808
  low = up.before.before

  abbrev st : tie.Start
  st = low.before.before

  of-step : c.size16.result ≡ nat_abs st.args.step
  of-step = c.size16.ensures ∙ ap nat_abs (to_z-of_z st.ranges.step)

  way : c.size16.result * st.args.more ≤ 32768 * 4294967296
  way = subst⁻¹ (λ x. x * st.args.more ≤ 32768 * 4294967296) of-step (product_le st.args.step st.args.more 32768 4294967296 st.ranges.step.sfits (omega arith))

  last : low.before.bias-from.result - 9223372036854775808 + c.size16.result * st.args.more ≡ last_at st.args.start st.args.step st.args.more
  last = ap₂ (λ x y. x + y * st.args.more) (first-is low) of-step

bias-requires : tie.Need-bias-from-requires
bias-requires c κs = search rules

returns : tie.Need-returns-then-from-lt9223372036854775808
returns c =
    let b = c.before in
    let s = b.before in
    climb-low _ _ _ _ _ (below-floors s.args.start s.args.floor (subst (λ x. x < half64) (of-start b) c.if-from-lt9223372036854775808.true))

returns-2 : tie.Need-returns-then-first-floor
returns-2 c =
    let e = c.before in
    let s = e.before.before in
    climb-low _ _ _ _ _ (floor-test s.args.start s.args.floor (above e) ∙ lt-ltb (first_at s.args.start) s.args.floor (subst (λ x. x < s.args.floor) (first-is e) c.if-first-floor.true))

goes-up-requires : tie.Need-goes_up-requires
goes-up-requires c κs = search rules

returns-3 : tie.Need-returns-then-not-goes_up
returns-3 c =
    let u = c.before in
    climb-flat _ _ _ _ _ (sym (of-up u) ∙ not-true u.goes_up.result c.if-not-goes_up.true-raw)

size16-requires : tie.Need-size16-requires
size16-requires c κs = search rules

mul-last : tie.Need-overflow_mul-last
mul-last c = omega (arith, way c)

add-last : tie.Need-overflow_add-last
add-last c = omega (arith, way c, (low c).before.bias-from.type_inv)

returns-4 : tie.Need-returns-then-count-last
returns-4 c =
    let z = c.before in
    let s = st z in
    climb-past _ _ _ _ _ (subst (λ x. s.args.count ≤ x) (last z) c.if-count-last.true)

add-result : tie.Need-overflow_add-result
add-result c = omega arith

returns-5 : tie.Need-returns
returns-5 c =
    let z = c.before in
    let s = st z in
    let e = low z in
    let u = up z in
    ap (λ x. x + 1) (last z)
    ∙ climb-on s.args.start s.args.step s.args.more s.args.floor s.args.count
    (floor-test s.args.start s.args.floor (above e) ∙ le-ltb (first_at s.args.start) s.args.floor (subst (λ x. s.args.floor ≤ x) (first-is e) u.before.if-first-floor.false))
    (sym (of-up u) ∙ not-false u.goes_up.result z.if-not-goes_up.false-raw) (subst (λ x. x < s.args.count) (last z) c.if-count-last.false)

pub climb_spec : {M : Type 1} → statement M
climb_spec = tie.close (tie.spec bias-requires returns returns-2 goes-up-requires returns-3 size16-requires mul-last add-last returns-4 add-result returns-5)
