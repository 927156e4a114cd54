-- "i64 target less start by wrapping subtraction": the difference of the two's complement patterns, which wraps where the start is below zero and the
-- target is not, is the exact distance. Assumes nothing.
use Rattle.std.proofs.Common.{◌≡◌, ℕ, ◌+◌, ◌-◌, ◌%◌, ◌<◌, ◌≤◌, false, ℤ, pos, negsuc, ◌-ℤ◌, sym, ap, ◌∙◌, arith, ltb-false}
use lib.Signed.{mag, lt_z}
use Rattle.keys.specs.Key.{key}
use Rattle.keys.specs.Widths.{half64}
use Rattle.keys.proofs.Keys.{lt-key}
use Rattle.keys.proofs.Widths.{apart}
use Rattle.codec.specs.Bytes.{of_signed}

-- what wraps is the keys' difference
keys-apart : (s t : ℤ) → mag s < half64 → mag t < half64 → key half64 s ≤ key half64 t
    → (r : ℕ) → r < 18446744073709551616 → (r + of_signed 8 s) % 18446744073709551616 ≡ of_signed 8 t → r ≡ key half64 t - key half64 s
unfolding key of_signed
keys-apart (pos a) (pos b) p q l r m e = omega arith
keys-apart (pos a) (negsuc b) p q l r m e = absurd (omega arith)
keys-apart (negsuc a) (pos b) p q l r m e = omega arith
keys-apart (negsuc a) (negsuc b) p q l r m e = omega arith

pub distance_is : (s t : ℤ) → mag s < half64 → mag t < half64 → lt_z t s ≡ false
    → (r : ℕ) → r < 18446744073709551616 → (r + of_signed 8 s) % 18446744073709551616 ≡ of_signed 8 t → pos r ≡ t -ℤ s
distance_is s t p q h r m e =
    let l : key half64 s ≤ key half64 t = ltb-false (key half64 t) (key half64 s) (sym (lt-key half64 t s q p) ∙ h) in
    ap pos (keys-apart s t p q l r m e) ∙ apart half64 s t p q l
