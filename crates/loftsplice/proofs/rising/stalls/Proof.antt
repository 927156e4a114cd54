-- `rising::stalls` meets its contract: every part is the number that its bits stand for. Assumes nothing.
use Rattle.std.proofs.Common.{◌≡◌, ◌<◌, pos, ◌*ℤ◌, arith, to_z-of_z, w16, w64, to_z, of_z, rules}
use lib.Signed.{mag}
use mir.Facts.{to_z_pos}
use Rattle.keys.specs.Widths.{half64}
use Rattle.keys.proofs.Bits.{back}
use Rattle.keys.proofs.Widths.{product_le, mag-product}
use Rattle.meaning.proofs.Walk.{stalls-product}
use Rattle.loftsplice.proofs.rising.stalls.Statement.{statement}
use Rattle.loftsplice.proofs.rising.stalls.Tie as tie

-- the step, widened; the number, as signed; their product
of-step : (c : tie.Start) → to_z w64 (of_z w64 (to_z w16 (of_z w16 c.args.step))) ≡ c.args.step
of-step c = rw (to_z-of_z c.ranges.step) (back w64 c.args.step (omega arith))

of-more : (c : tie.Start) → to_z w64 c.args.more ≡ pos c.args.more
of-more c = to_z_pos w64 (omega arith)

product : (c : tie.Start) → mag (c.args.step *ℤ pos c.args.more) < half64
product c = omega (arith, mag-product c.args.step c.args.more, product_le c.args.step c.args.more 32768 4294967296 c.ranges.step.sfits (omega arith))

cast-result : tie.Need-overflow_cast-result
cast-result c = rw (to_z-of_z c.ranges.step) (record { sfits = omega arith })

cast-result-2 : tie.Need-overflow_cast-result-2
cast-result-2 c = search rules

mul-result : tie.Need-overflow_mul-result
mul-result c = rw (of-step c, of-more c) (record { sfits = product c })

cast-result-3 : tie.Need-overflow_cast-result-3
cast-result-3 c = search rules

returns : tie.Need-returns
returns c = rw (of-step c, of-more c, back w64 (c.args.step *ℤ pos c.args.more) (product c)) (stalls-product c.args.step c.args.more)

pub stalls_spec : {M : Type 1} → statement M
stalls_spec = tie.close (tie.spec cast-result cast-result-2 mul-result cast-result-3 returns)
