-- `checked::turned` meets its contract: every part is the number that its bits stand for. Assumes nothing.
use Rattle.std.proofs.Common.{◌≡◌, ℕ, ◌+◌, ◌-◌, ◌%◌, ◌<◌, ℤ, pos, ◌*ℤ◌, ap, ◌∙◌, arith, to_z-of_z, w16, w64, to_z, of_z, rules}
use lib.Bits.{bit_and}
use lib.Signed.{mag}
use mir.Facts.{to_z_pos}
use Rattle.keys.specs.Key.{key}
use Rattle.keys.specs.Widths.{half64}
use Rattle.keys.proofs.Bits.{back}
use Rattle.keys.proofs.Widths.{product_le, mag-product}
use Rattle.checked.proofs.Turning.{half-short, turned-sure}
use Rattle.checked.proofs.quick.turned.Statement.{statement}
use Rattle.checked.proofs.quick.turned.Tie as tie

abbrev k : tie.Start → ℕ
k c = bit_and (c.args.end - c.args.low - 1) 4294967295

-- the step, widened; the offset, as signed; their product
of-step : (c : tie.Start) → to_z w64 (of_z w64 (to_z w16 (of_z w16 c.args.step))) ≡ c.args.step
of-step c = rw (to_z-of_z c.ranges.step) (back w64 c.args.step (omega arith))

of-offset : (c : tie.Start) → to_z w64 (k c) ≡ pos (k c)
of-offset c = to_z_pos w64 (omega (arith, half-short (c.args.end - c.args.low - 1)))

product : (c : tie.Start) → mag (c.args.step *ℤ pos (k c)) < half64
product c =
    let short = half-short (c.args.end - c.args.low - 1) in
    omega (arith, mag-product c.args.step (k c), product_le c.args.step (k c) 32768 4294967296 c.ranges.step.sfits (omega (arith, short)))

sub-k : tie.Need-overflow_sub-k
sub-k c = search rules

sub-k-2 : tie.Need-overflow_sub-k-2
sub-k-2 c = search rules

bits-requires : tie.Need-bits-from-requires
bits-requires c κs = search rules

cast-bits : tie.Need-overflow_cast-step
cast-bits c = rw (to_z-of_z c.before.ranges.step) (record { sfits = omega arith })

cast-bits-2 : tie.Need-overflow_cast-k
cast-bits-2 c = omega (arith, half-short (c.before.args.end - c.before.args.low - 1))

mul-bits : tie.Need-overflow_mul-step
mul-bits c = rw (of-step c.before, of-offset c.before) (record { sfits = product c.before })

bits-requires-2 : tie.Need-bits-requires
bits-requires-2 c κs = search rules

wrapping-add-u64-requires : tie.Need-wrapping_add_u64-requires
wrapping-add-u64-requires c κs = search rules

returns : tie.Need-returns
returns c = λ same.
    let s = c.before.before.before in
    let at : ℤ → ℕ = λ z. (key half64 z + 9223372036854775808) % 18446744073709551616 in
    turned-sure s.args.low s.args.end s.args.start s.args.step _ _ _ s.requires s.ranges.start.sfits s.ranges.step.sfits
    (c.before.before.bits-from.ensures ∙ ap at (to_z-of_z s.ranges.start))
    (c.before.bits.ensures ∙ ap at (rw (of-step s, of-offset s) (back w64 (s.args.step *ℤ pos (k s)) (product s))))
    c.wrapping_add_u64.ensures same

pub turned_spec : {M : Type 1} → statement M
turned_spec = tie.close (tie.spec sub-k sub-k-2 bits-requires cast-bits cast-bits-2 mul-bits bits-requires-2 wrapping-add-u64-requires returns)
