-- The decimal text of a sum below zero, and of a sum by its high and low. Assumes nothing.
use Prim.Native.Nat.{ℕ, suc, ◌+◌, ◌-◌, ◌*◌, ◌/◌, ◌%◌, ◌<◌, ◌≤◌}
use mathlib.Core.Path.{◌≡◌, sym, ap, subst, ◌∙◌}
use mathlib.Core.List.{List, ◌∷◌}
use native.Mathlib.Omega.{arith}
use lib.ListN.{length, take, drop, set}
use lib.IntN.{ℤ, pos, negsuc, sub_ℕ, ◌+ℤ◌}
use lib.Signed.{mag}
use Rattle.keys.specs.Key.{key}
use Rattle.keys.specs.Widths.{half64}
use Rattle.keys.proofs.Keys.{sub_low, sub-high}
use Rattle.totals.specs.Totals.{worth}
use Rattle.totals.proofs.Differences.{neg-sub, sub-up, sub_same}
use Rattle.totalling.specs.Decimal.{digits_of, text_of}
use Rattle.totalling.proofs.Spelling.{stored, shorter}

-- ---- a minus

minus-text : (n : ℕ) → 0 < n → 45 ∷ digits_of n ≡ text_of (sub_ℕ 0 n)
unfolding text_of
minus-text n p =
    let e : suc (n - suc 0) ≡ n = omega arith in
    sym (ap text_of (sub_low 0 n p) ∙ ap (λ (m : ℕ). 45 ∷ digits_of m) e)

pub minus : (n i : ℕ) (out : List ℕ) → length out ≡ 30 → 0 < i → i ≤ 30 → 0 < n → drop i out ≡ digits_of n → drop (i - 1) (set out (i - 1) 45) ≡ text_of (sub_ℕ 0 n)
minus n i out r p q some e =
    let back : suc (i - 1) ≡ i = omega arith in
    stored out (i - 1) 45 (omega arith)
    ∙ ap (λ (m : ℕ). 45 ∷ drop m out) back
    ∙ ap (λ (l : List ℕ). 45 ∷ l) e
    ∙ minus-text n some

pub before-minus : (i : ℕ) (old out : List ℕ) → 0 < i → take i out ≡ take i old → take (i - 1) (set out (i - 1) 45) ≡ take (i - 1) old
before-minus i old out p e =
    let back : i ≡ suc (i - 1) = omega arith in
    shorter out old (i - 1) 45 (subst (λ (m : ℕ). take m out ≡ take m old) back e)

-- ---- a low less a size of a high

module _ (size low : ℕ) where
  -- it reaches the size,
  pub over : size ≤ low / 4294967296 → digits_of ((low / 4294967296 - size) * 4294967296 + low % 4294967296) ≡ text_of (sub_ℕ low (size * 4294967296))
  unfolding text_of
  over p = sym (ap text_of (sub-high low (size * 4294967296) (omega arith)) ∙ ap digits_of (omega arith))

  -- or n is missing
  pub under : (n : ℕ) → low + n ≡ size * 4294967296 → text_of (sub_ℕ 0 n) ≡ text_of (sub_ℕ low (size * 4294967296))
  under n e = ap text_of (sub_same 0 n low (size * 4294967296) (omega arith))

-- ---- a high by its key

pub worth-up : (z : ℤ) (low k : ℕ) → k ≡ key half64 z → half64 ≤ k → digits_of ((k - half64 + low / 4294967296) * 4294967296 + low % 4294967296) ≡ text_of (worth z low)
unfolding key text_of
worth-up (pos n) low k e p = ap digits_of (omega arith)
worth-up (negsuc n) low k e p = absurd (omega arith)

pub worth-down : (z : ℤ) (low k : ℕ) → mag z < half64 → k ≡ key half64 z → k < half64 → text_of (sub_ℕ low ((half64 - k) * 4294967296)) ≡ text_of (worth z low)
unfolding key
worth-down (pos n) low k f e p = absurd (omega arith)
worth-down (negsuc n) low k f e p =
    sym (ap text_of
    (ap (λ (y : ℤ). y +ℤ pos low) (neg-sub (suc n * 4294967296)) ∙ sub-up 0 (suc n * 4294967296) low
    ∙ sub_same (0 + low) (suc n * 4294967296) low ((half64 - k) * 4294967296) (omega arith)))
