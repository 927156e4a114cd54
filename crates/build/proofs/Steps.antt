-- What a difference that may wrap tells of a value that may join. Assumes nothing.
use Rattle.std.proofs.Common.{◌≡◌, ℕ, suc, ◌+◌, ◌-◌, ◌%◌, ◌^◌, ◌<◌, ◌≤◌, true, false, ltb, leb, ℤ, pos, negsuc, ◌-ℤ◌, sym, ap, ◌∙◌, arith, ltb-false, ltb-true, le-leb, leb-false, leb-true}
use mathlib.Core.Bool.{beq}
use lib.Signed.{mag, le_z}
use Rattle.keys.specs.Key.{key, unkey}
use Rattle.keys.specs.Widths.{fits_in, half16, half64}
use Rattle.keys.proofs.Keys.{sub_low, sub-high, key-range, le-key}
use Rattle.keys.proofs.Widths.{in-mag, apart, apart-down}
use Rattle.ranges.proofs.Bools.{either}
use Rattle.meaning.specs.Sequence.{same_z}
use Rattle.codec.specs.Bytes.{of_signed}
use Rattle.build.proofs.Rule.{same-yes, same_self}

-- ---- the difference r of the two's complement patterns, which may wrap

-- it is that of the keys
keys-wrap : (x y : ℤ) → mag x < half64 → mag y < half64 → (r : ℕ) → (r + of_signed 8 x) % 18446744073709551616 ≡ of_signed 8 y → (r + key half64 x) % 18446744073709551616 ≡ key half64 y
unfolding key of_signed
keys-wrap (pos a) (pos b) p q r e = omega arith
keys-wrap (pos a) (negsuc b) p q r e = omega arith
keys-wrap (negsuc a) (pos b) p q r e = omega arith
keys-wrap (negsuc a) (negsuc b) p q r e = omega arith

module _ (x y : ℤ) (fx : mag x < half64) (fy : mag y < half64)
    (r : ℕ) (m : r < 18446744073709551616) (e : (r + of_signed 8 x) % 18446744073709551616 ≡ of_signed 8 y) where
  abbrev from : ℕ
  from = key half64 x

  abbrev to : ℕ
  to = key half64 y

  -- up, it is the difference itself,
  up_by : from ≤ to → pos r ≡ y -ℤ x
  up_by l = ap pos (omega (arith, keys-wrap x y fx fy r e, key-range half64 y fy)) ∙ apart half64 x y fx fy l

  -- and down, what is missing to the whole
  down_by : to < from → negsuc (18446744073709551615 - r) ≡ y -ℤ x
  down_by l = ap negsuc (omega (arith, keys-wrap x y fx fy r e, key-range half64 x fx)) ∙ apart-down half64 x y fx fy l

  -- 32,768 more, which may wrap too: where there is a step it is found again
  pub step-near : (s : ℕ) → s ≡ (r + 32768) % 18446744073709551616 → fits_in half16 (y -ℤ x) ≡ true → (s ≤ 65535) × (unkey half16 s ≡ y -ℤ x)
  step-near s is h = either (ltb to from)
      (λ t.
      let d = down_by (ltb-true to from t) in
      let l : 18446744073709551615 - r < half16 = ltb-true (18446744073709551615 - r) half16 (sym (ap (fits_in half16) (sym d) ∙ in-mag half16 (negsuc (18446744073709551615 - r))) ∙ h) in
      (omega arith, sub_low s half16 (omega arith) ∙ ap negsuc (omega arith) ∙ d))
      (λ t.
      let u = up_by (ltb-false to from t) in
      let l : r < half16 = ltb-true r half16 (sym (ap (fits_in half16) (sym u) ∙ in-mag half16 (pos r)) ∙ h) in
      (omega arith, sub-high s half16 (omega arith) ∙ ap pos (omega arith) ∙ u))

  -- two values that are s apart have the pattern of s as their difference,
  pattern-is : (s : ℤ) → y -ℤ x ≡ s → r ≡ of_signed 8 s
  unfolding of_signed
  pattern-is s is = either (ltb to from)
      (λ t. let k : 256 ^ 8 - suc (18446744073709551615 - r) ≡ r = omega arith in sym k ∙ ap (of_signed 8) (down_by (ltb-true to from t) ∙ is))
      (λ t. ap (of_signed 8) (up_by (ltb-false to from t) ∙ is))

  pub other_step : (s : ℤ) → (r ≡ of_signed 8 s → ⊥) → false ≡ same_z (y -ℤ x) s
  other_step s ne = either (same_z (y -ℤ x) s) (λ t. absurd (ne (pattern-is s (same-yes (y -ℤ x) s t)))) (λ t. sym t)

  -- and those that have it are s apart exactly if they lie as its sign says
  pub this-step : (s : ℤ) → mag s < half16 → r ≡ of_signed 8 s → beq (le_z x y) (le_z (pos 0) s) ≡ same_z (y -ℤ x) s
  unfolding of_signed
  this-step (pos n) l is = either (leb from to)
      (λ t. let d : y -ℤ x ≡ pos n = sym (up_by (leb-true from to t)) ∙ ap pos is in rw (le-key half64 x y fx fy, t, le-leb 0 n (omega arith), d, same_self (pos n)))
      (λ t. rw (le-key half64 x y fx fy, t, le-leb 0 n (omega arith), sym (down_by (leb-false from to t))))
  this-step (negsuc n) l is = either (leb from to)
      (λ t. rw (le-key half64 x y fx fy, t, sym (up_by (leb-true from to t))))
      (λ t. let k : 18446744073709551615 - r ≡ n = omega arith in
      let d : y -ℤ x ≡ negsuc n = sym (down_by (leb-false from to t)) ∙ ap negsuc k in rw (le-key half64 x y fx fy, t, d, same_self (negsuc n)))

  -- far enough from where it wraps, the pattern alone tells; and the value is as near to there as a step can bring it
  pub inside-step : (s : ℤ) → mag s < half16 → 32768 ≤ from → from + 32768 ≤ 18446744073709551616 → r ≡ of_signed 8 s
      → (same_z (y -ℤ x) s ≡ true) × (from ≤ to + 32768) × (to ≤ from + 32768)
  unfolding of_signed
  inside-step (pos n) l low high is =
      let on : to ≡ from + n = omega (arith, keys-wrap x y fx fy r e) in
      let d : y -ℤ x ≡ pos n = sym (up_by (omega arith)) ∙ ap pos is in
      (ap (λ z. same_z z (pos n)) d ∙ same_self (pos n), omega arith, omega arith)
  inside-step (negsuc n) l low high is =
      let on : to + suc n ≡ from = omega (arith, keys-wrap x y fx fy r e) in
      let k : 18446744073709551615 - r ≡ n = omega arith in
      let d : y -ℤ x ≡ negsuc n = sym (down_by (omega arith)) ∙ ap negsuc k in
      (ap (λ z. same_z z (negsuc n)) d ∙ same_self (negsuc n), omega arith, omega arith)
