-- `hop` meets its contract. Assumes nothing.
use Prim.Native.Nat.{ℕ, ◌+◌, ◌-◌, ◌/◌, ◌<◌}
use native.Mathlib.Omega.{arith}
use mathlib.Core.Path.{◌≡◌, ap, ◌∙◌}
use mathlib.Core.Bool.{true, not}
use lib.IntN.{pos, nat_abs, ◌+ℤ◌, ◌*ℤ◌}
use lib.Signed.{lt_z, mag}
use mir.Syntax.{w16, w64}
use mir.Val.{to_z, of_z}
use mir.Facts.{to_z-of_z, to_z_pos}
use Rattle.ranges.proofs.Order.{lt-is}
use Rattle.keys.specs.Key.{key}
use Rattle.keys.specs.Widths.{half64}
use Rattle.keys.proofs.Bits.{back}
use Rattle.meaning.specs.Column.{offset}
use Rattle.meaning.proofs.Crossing.{size-up}
use Rattle.run_calls.specs.Inner.{Hop}
use Rattle.run_calls.proofs.Hops.{product-fits, quotient-same, stays, up, next_fits, goes-next, keys-rise, short, fits, goes-far}
use borrow.Author.Rules.{rules}
use Rattle.run_calls.proofs.hop.Statement.{statement}
use Rattle.run_calls.proofs.hop.Tie as tie

asked : (s : tie.Start) → Hop s.args.base s.args.step s.args.at s.args.value s.args.target
asked s = s.requires

-- the numbers after their bits
module _ (s : tie.Start) where
  of-step : to_z w64 (of_z w64 (to_z w16 (of_z w16 s.args.step))) ≡ s.args.step
  of-step = rw (to_z-of_z s.ranges.step) (back w64 s.args.step (omega arith))

  of-value : to_z w64 (of_z w64 s.args.value) ≡ s.args.value
  of-value = to_z-of_z s.ranges.value

  of-target : to_z w64 (of_z w64 s.args.target) ≡ s.args.target
  of-target = to_z-of_z s.ranges.target

  of-base : to_z w64 (of_z w64 s.args.base) ≡ s.args.base
  of-base = to_z-of_z s.ranges.base

-- the element where it stands is below the target
low : (c : tie.Else-target-value) → lt_z c.args.value c.args.target ≡ true
low c = let s = c.before in lt-is s.args.target s.args.value ∙ ap not (rw (of-target s, of-value s) at c.if-target-value.false)

returns : tie.Need-returns-then-target-value
returns c =
    let s = c.before in
    rw (of-value s) (stays _ _ _ _ _ (asked s) (lt-is s.args.target s.args.value ∙ ap not (rw (of-target s, of-value s) at c.if-target-value.true)))

cast-by : tie.Need-overflow_cast-by
cast-by c = rw (to_z-of_z c.ranges.step) (record { sfits = omega arith })

add-next : tie.Need-overflow_add-next
add-next c = let s = c.before in rw (of-value s, of-step s) (record { sfits = next_fits _ _ _ _ _ (asked s) (low c) })

of-next : (c : tie.Else-target-value) → let s = c.before in to_z w64 (of_z w64 (to_z w64 (of_z w64 s.args.value) +ℤ to_z w64 (of_z w64 (to_z w16 (of_z w16 s.args.step))))) ≡ s.args.value +ℤ s.args.step
of-next c = let s = c.before in rw (of-value s, of-step s) (back w64 (s.args.value +ℤ s.args.step) (next_fits _ _ _ _ _ (asked s) (low c)))

add-near : tie.Need-overflow_add-near
add-near c = search rules

returns-2 : tie.Need-returns-then-target-next
returns-2 c =
    let e = c.before in
    let s = e.before in
    goes-next _ _ _ _ _ (asked s) (low e) _ (of-next e) (rw (of-target s) at (lt-is (to_z w64 (of_z w64 s.args.target)) _ ∙ ap not c.if-target-next.true))

-- ---- by one division

bias-requires : tie.Need-bias-requires
bias-requires c κs = search rules

bias-requires-2 : tie.Need-bias-requires-2
bias-requires-2 c κs = search rules

module _ (c : tie.After-bias-2) where
  abbrev from : tie.Else-target-value
  from = c.before.before.before

  to-key : c.bias.result ≡ key half64 from.before.args.target
  to-key = c.bias.ensures ∙ ap (key half64) (of-target from.before)

  base_key : c.bias-2.result ≡ key half64 from.before.args.base
  base_key = c.bias-2.ensures ∙ ap (key half64) (of-base from.before)

  rise : key half64 from.before.args.base < key half64 from.before.args.target
  rise = let s = from.before in keys-rise _ _ _ _ _ (asked s) (low from) s.ranges.base.sfits s.ranges.target.sfits

sub-far : tie.Need-overflow_sub-far
sub-far c = omega (arith, to-key c, base_key c, rise c)

sub-far-2 : tie.Need-overflow_sub-far-2
sub-far-2 c = omega (arith, to-key c, base_key c, rise c)

size16-requires : tie.Need-size16-requires
size16-requires c κs = search rules

module _ (c : tie.After-size16) where
  abbrev start : tie.Start
  start = (from c.before).before

  of_size : c.size16.result ≡ nat_abs start.args.step
  of_size = c.size16.ensures ∙ ap nat_abs (to_z-of_z start.ranges.step)

  abbrev k : ℕ
  k = (c.bias.result - c.bias-2.result - 1) / c.size16.result + 1

  is-k : k ≡ (key half64 start.args.target - key half64 start.args.base - 1) / nat_abs start.args.step + 1
  is-k = quotient-same (to-key c.before) (base_key c.before) of_size

  k-short : k < 4294967296
  k-short = short _ _ _ _ _ (asked start) (low (from c.before)) start.ranges.base.sfits start.ranges.target.sfits k is-k

  k-fits : mag (offset start.args.base start.args.step k) < half64
  k-fits = fits _ _ _ _ _ (asked start) (low (from c.before)) start.ranges.base.sfits start.ranges.target.sfits k is-k

  of-k : to_z w64 k ≡ pos k
  of-k = to_z_pos w64 (omega (arith, k-short))

  product : mag (start.args.step *ℤ pos k) < half64
  product = product-fits start.args.step k start.ranges.step.sfits k-short

  of-product : to_z w64 (of_z w64 (start.args.step *ℤ pos k)) ≡ start.args.step *ℤ pos k
  of-product = back w64 (start.args.step *ℤ pos k) product

div-far : tie.Need-nonzero_div-far
div-far c = rw (of_size c) (size-up (start c).args.step (up _ _ _ _ _ (asked (start c)) (low (from c.before))))

add-far : tie.Need-overflow_add-far
add-far c = omega (arith, k-short c)

cast-found : tie.Need-overflow_cast-found
cast-found c = omega (arith, k-short c)

mul-found : tie.Need-overflow_mul-found
mul-found c = rw (of-step (start c), of-k c) (record { sfits = product c })

add-found : tie.Need-overflow_add-found
add-found c = rw (of-step (start c), of-k c, of-product c, of-base (start c)) (record { sfits = k-fits c })

returns-3 : tie.Need-returns
returns-3 c =
    let s = start c in
    goes-far _ _ _ _ _ (asked s) (low (from c.before)) s.ranges.base.sfits s.ranges.target.sfits _ (is-k c) _
    (rw (of-step s, of-k c, of-product c, of-base s) (back w64 (offset s.args.base s.args.step (k c)) (k-fits c)))

pub hop_spec : {M : Type 1} → statement M
hop_spec = tie.close (tie.spec returns cast-by add-next add-near returns-2 bias-requires bias-requires-2 sub-far sub-far-2 size16-requires div-far add-far cast-found mul-found add-found returns-3)
