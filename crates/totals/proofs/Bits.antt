-- A key turned back into the number it stands for. Assumes nothing.
use Prim.Native.Nat.{ℕ, suc, ◌-◌, ◌<◌, ◌≤◌}
use mathlib.Core.Path.{◌≡◌, sym, ap, ◌∙◌}
use native.Mathlib.Omega.{arith}
use lib.IntN.{ℤ, negsuc}
use mir.Syntax.{w64}
use mir.Val.{to_z, of_z}
use mir.Facts.{to_z_pos, to_z-neg}
use Rattle.keys.specs.Key.{unkey}
use Rattle.keys.specs.Widths.{half64}
use Rattle.keys.proofs.Bits.{back}
use Rattle.keys.proofs.Keys.{sub_low, sub-high, mag-unkey}

pub unbias-low : (k : ℕ) → k < 9223372036854775808 → to_z w64 (18446744073709551615 - (9223372036854775807 - k)) ≡ unkey half64 k
unbias-low k l =
    let e : 18446744073709551615 - (9223372036854775807 - k) ≡ 18446744073709551616 - suc (9223372036854775807 - k) = omega arith in
    ap (to_z w64) e ∙ to_z-neg w64 (9223372036854775807 - k) (omega arith) ∙ sym (sub_low k 9223372036854775808 l ∙ ap negsuc (omega arith))

pub unbias-high : (k : ℕ) → 9223372036854775808 ≤ k → k < 18446744073709551616 → to_z w64 (k - 9223372036854775808) ≡ unkey half64 k
unbias-high k l m = to_z_pos w64 (omega arith) ∙ sym (sub-high k 9223372036854775808 l)

-- what a call gave, read back from its bits
pub key_back : (k : ℕ) (z : ℤ) → z ≡ unkey half64 k → k < 18446744073709551616 → to_z w64 (of_z w64 z) ≡ unkey half64 k
key_back k z e l = ap (λ (y : ℤ). to_z w64 (of_z w64 y)) e ∙ back w64 (unkey half64 k) (mag-unkey half64 k l)
