-- A sum's one high and one low, and whether the high is an i64. Assumes nothing.
use Prim.Native.Nat.{ℕ, suc, ◌+◌, ◌-◌, ◌*◌, ◌/◌, ◌%◌, ◌<◌, ◌≤◌}
use mathlib.Core.Path.{◌≡◌, sym, ap, ◌∙◌}
use mathlib.Core.Bool.{true, false}
use mathlib.Core.Logic.{⊎_elim}
use native.Mathlib.Omega.{arith}
use borrow.Author.Tests.{ltb-true, lt-ltb, le-ltb}
use lib.Dec.{ltb}
use lib.IntN.{ℤ, pos, negsuc, neg_ℤ, sub_ℕ, ◌+ℤ◌}
use lib.Signed.{mag}
use Rattle.ranges.proofs.Bools.{same-ltb}
use Rattle.ranges.proofs.Spans.{lt-or-ge}
use Rattle.keys.specs.Key.{unkey}
use Rattle.keys.specs.Widths.{half64}
use Rattle.keys.proofs.Keys.{sub_low, sub-high}
use Rattle.keys.proofs.Widths.{in-mag}
use Rattle.totals.specs.Totals.{worth, high_of, low_of, has_high}
use Rattle.totals.proofs.Differences.{sub_same, sub-mul, sub-up, neg-sub}

-- ---- one high and one low

pub below-zero : (a low : ℕ) → low < 4294967296 → neg_ℤ (pos (suc a * 4294967296)) +ℤ pos low ≡ negsuc (suc a * 4294967296 - suc low)
below-zero a low l =
    ap (λ (z : ℤ). z +ℤ pos low) (neg-sub (suc a * 4294967296)) ∙ sub-up 0 (suc a * 4294967296) low
    ∙ sub_low (0 + low) (suc a * 4294967296) (omega arith) ∙ ap negsuc (omega arith)

pub high_one : (high : ℤ) (low : ℕ) → low < 4294967296 → high_of (worth high low) ≡ high
unfolding high_of
high_one (pos a) low l = ap pos (omega arith)
high_one (negsuc a) low l = ap high_of (below-zero a low l) ∙ ap negsuc (omega arith)

pub low-one : (high : ℤ) (low : ℕ) → low < 4294967296 → low_of (worth high low) ≡ low
unfolding low_of
low-one (pos a) low l = omega arith
low-one (negsuc a) low l = ap low_of (below-zero a low l) ∙ omega arith

-- ---- a sum by a key of its high

worth-is : (k low : ℕ) → worth (unkey half64 k) low ≡ sub_ℕ (k * 4294967296 + low) 39614081257132168796771975168
worth-is k low = ap (λ (z : ℤ). z +ℤ pos low) (sub-mul k half64) ∙ sub-up (k * 4294967296) 39614081257132168796771975168 low

split-is : (k low x y : ℕ) → k * 4294967296 + low + y ≡ x + 39614081257132168796771975168 → worth (unkey half64 k) low ≡ sub_ℕ x y
split-is k low x y e = worth-is k low ∙ sub_same (k * 4294967296 + low) 39614081257132168796771975168 x y e

pub high-by : (k low x y : ℕ) → low < 4294967296 → k * 4294967296 + low + y ≡ x + 39614081257132168796771975168 → unkey half64 k ≡ high_of (sub_ℕ x y)
high-by k low x y l e = sym (high_one (unkey half64 k) low l) ∙ ap high_of (split-is k low x y e)

pub low_by : (low x y : ℕ) → x % 4294967296 ≡ low → y % 4294967296 ≡ 0 → low ≡ low_of (sub_ℕ x y)
unfolding low_of
low_by low x y e z = ⊎_elim
    (λ (l : x < y). rw (sub_low x y l) (omega arith))
    (λ (l : y ≤ x). rw (sub-high x y l) (omega arith))
    (lt-or-ge x y)

-- ---- whether the high is an i64: -2 ^ 95 up to 2 ^ 95 - 1

pub high-range : (z : ℤ) → has_high z ≡ ltb (mag z) 39614081257132168796771975168
unfolding has_high high_of
high-range (pos n) = in-mag half64 (pos (n / 4294967296)) ∙ same-ltb (n / 4294967296) half64 n 39614081257132168796771975168 (λ l. omega arith) (λ l. omega arith)
high-range (negsuc n) = in-mag half64 (negsuc (n / 4294967296)) ∙ same-ltb (n / 4294967296) half64 n 39614081257132168796771975168 (λ l. omega arith) (λ l. omega arith)

module _ (x y : ℕ) where
  pub high-in : y ≤ x + 39614081257132168796771975168 → x < y + 39614081257132168796771975168 → has_high (sub_ℕ x y) ≡ true
  high-in l m = high-range (sub_ℕ x y) ∙ ⊎_elim
      (λ (u : x < y). rw (sub_low x y u) (lt-ltb (y - suc x) 39614081257132168796771975168 (omega arith)))
      (λ (u : y ≤ x). rw (sub-high x y u) (lt-ltb (x - y) 39614081257132168796771975168 (omega arith)))
      (lt-or-ge x y)

  pub high-below : x + 39614081257132168796771975168 < y → has_high (sub_ℕ x y) ≡ false
  high-below l = high-range (sub_ℕ x y) ∙ rw (sub_low x y (omega arith)) (le-ltb (y - suc x) 39614081257132168796771975168 (omega arith))

  pub high-above : y + 39614081257132168796771975168 ≤ x → has_high (sub_ℕ x y) ≡ false
  high-above l = high-range (sub_ℕ x y) ∙ rw (sub-high x y (omega arith)) (le-ltb (x - y) 39614081257132168796771975168 (omega arith))

  -- and back
  high-told : has_high (sub_ℕ x y) ≡ true → mag (sub_ℕ x y) < 39614081257132168796771975168
  high-told h = ltb-true (mag (sub_ℕ x y)) 39614081257132168796771975168 (sym (high-range (sub_ℕ x y)) ∙ h)

  pub high-low : has_high (sub_ℕ x y) ≡ true → y ≤ x + 39614081257132168796771975168
  high-low h = ⊎_elim
      (λ (u : x < y). let m : y - suc x < 39614081257132168796771975168 = rw (sub_low x y u) at (high-told h) in omega arith)
      (λ (u : y ≤ x). omega arith)
      (lt-or-ge x y)

  pub high-high : has_high (sub_ℕ x y) ≡ true → x < y + 39614081257132168796771975168
  high-high h = ⊎_elim
      (λ (u : x < y). omega arith)
      (λ (u : y ≤ x). let m : x - y < 39614081257132168796771975168 = rw (sub-high x y u) at (high-told h) in omega arith)
      (lt-or-ge x y)

-- ---- of columns that are not carried: units count the sum in 2 ^ 63, from -2 ^ 95 on

module _ (top mid low count : ℕ) where
  abbrev mass : ℕ
  mass = top * 18446744073709551616 + mid * 4294967296 + low

  abbrev carried : ℕ
  carried = mid + low / 4294967296

  abbrev units : ℕ
  units = 2 * top + carried / 2147483648 + 4294967296

  pub units-below : units < count → has_high (sub_ℕ mass (count * half64)) ≡ false
  units-below l = high-below mass (count * half64) (omega arith)

  pub units-tell : count ≤ units → ltb (units - count) 8589934592 ≡ has_high (sub_ℕ mass (count * half64))
  units-tell l = ⊎_elim
      (λ (u : units - count < 8589934592). lt-ltb (units - count) 8589934592 u ∙ sym (high-in mass (count * half64) (omega arith) (omega arith)))
      (λ (u : 8589934592 ≤ units - count). le-ltb (units - count) 8589934592 u ∙ sym (high-above mass (count * half64) (omega arith)))
      (lt-or-ge (units - count) 8589934592)

  module _ (h : has_high (sub_ℕ mass (count * half64)) ≡ true) where
    pub units-from : count ≤ units
    units-from = omega (arith, high-low mass (count * half64) h)

    pub units-to : units - count < 8589934592
    units-to = omega (arith, high-low mass (count * half64) h, high-high mass (count * half64) h)

    pub units-high : unkey half64 ((units - count) * 2147483648 + carried % 2147483648) ≡ high_of (sub_ℕ mass (count * half64))
    units-high = high-by ((units - count) * 2147483648 + carried % 2147483648) (low % 4294967296) mass (count * half64) (omega arith) (omega (arith, units-from))

  pub units-low : low % 4294967296 ≡ low_of (sub_ℕ mass (count * half64))
  units-low = low_by (low % 4294967296) mass (count * half64) (omega arith) (omega arith)
