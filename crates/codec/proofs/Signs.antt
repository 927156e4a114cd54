-- Two's complement as the machine has it is that of specs/, over the width. Assumes nothing.
use Prim.Native.Nat.{ℕ, ◌-◌, ◌*◌, ◌^◌}
use mathlib.Core.Path.{◌≡◌, refl, sym, ap, ◌∙◌}
use mathlib.Core.Bool.{true, false}
use native.Mathlib.Omega.{arith}
use borrow.Author.Tests.{lt-ltb, le-ltb, ltb-true, ltb-false}
use lib.Dec.{ltb}
use lib.IntN.{ℤ, pos, negsuc}
use lib.Signed.{mag, lt_z}
use mir.Syntax.{Width}
use mir.Val.{SFits, to_z, of_z, bits, hbits}
use mir.ValLaws.{pow-bits}
use mir.Facts.{to_z-of_z}
use Rattle.ranges.proofs.Bools.{either}
use Rattle.keys.proofs.Keys.{is-high}
use Rattle.keys.proofs.Bits.{sign, not_low}
use Rattle.codec.specs.Bytes.{to_signed, of_signed}

module _ (w : Width) (v : ℤ) (f : SFits w v) where
  -- a number below zero: its bits, flipped,
  pub flipped : lt_z (to_z w (of_z w v)) (pos 0) ≡ true → to_z w ((2 ^ bits w - 1) - of_z w v) ≡ pos (mag v)
  flipped t = not_low w v f (sym (sign f) ∙ t)

  -- and one that is not: its bits
  pub kept : lt_z (to_z w (of_z w v)) (pos 0) ≡ false → to_z w (of_z w v) ≡ pos (mag v)
  kept t = to_z-of_z f ∙ is-high v (sym (sign f) ∙ t)

module _ (w : Width) (k : ℕ) (e : 256 ^ k ≡ 2 ^ bits w) where
  -- the signed number of the bits x,
  pub as-signed : (x : ℕ) → to_z w x ≡ to_signed k x
  unfolding to_signed
  as-signed x = either (ltb x (2 ^ hbits w))
      (λ t. rw (t, lt-ltb (x * 2) (256 ^ k) (rw (e, pow-bits w) (omega (arith, ltb-true x (2 ^ hbits w) t)))))
      (λ t. rw (t, le-ltb (x * 2) (256 ^ k) (rw (e, pow-bits w) (omega (arith, ltb-false x (2 ^ hbits w) t))), e))

  -- and the bits of a signed number
  as-unsigned : (v : ℤ) → of_z w v ≡ of_signed k v
  unfolding of_signed
  as-unsigned (pos n) = refl
  as-unsigned (negsuc n) = rw e refl

  -- of an argument, which is its bits
  pub argument-unsigned : (v : ℤ) → SFits w v → of_z w (to_z w (of_z w v)) ≡ of_signed k v
  argument-unsigned v f = ap (of_z w) (to_z-of_z f) ∙ as-unsigned v
