-- "two whole numbers, high and low, with sum = high × 4,294,967,296 + low": every sum has one high and one low; a window's high is an i64. Assumes nothing.
use Prim.Native.Nat.{ℕ, zero, suc, ◌+◌, ◌-◌, ◌/◌, ◌%◌, ◌≤◌, ◌<◌}
use mathlib.Core.Path.{◌≡◌, refl, sym, ap, ◌∙◌}
use mathlib.Core.Bool.{true, false≢true}
use mathlib.Core.List.{List, [], ◌∷◌}
use mathlib.Core.Logic.{⊎_elim}
use native.Mathlib.Omega.{arith}
use borrow.Author.Tests.{ltb-true, ltb-false}
use lib.IntN.{ℤ, pos, negsuc}
use lib.Signed.{mag}
use Rattle.keys.specs.Widths.{fits_in, half64}
use Rattle.keys.proofs.Widths.{in-mag}
use Rattle.meaning.specs.Refusals.{Number}
use Rattle.meaning.specs.Sequence.{elements_for, elements_in}
use Rattle.meaning.specs.Column.{Column, start_of, runs, size_of, run_of, offset_of, element_at, sound, sequence_of, source_of}
use Rattle.meaning.specs.Parts.{joined}
use Rattle.meaning.proofs.Soundness.{sound-parts, size-most, located}
use Rattle.meaning.proofs.Elements.{elements-length}
use Rattle.ranges.proofs.Bools.{not-no}
use Rattle.ranges.proofs.Spans.{lt-or-ge, in_all}
use Rattle.totals.specs.Totals.{sum_of, Split, high_of, low_of, has_high}
use Rattle.totals.specs.Windows.{elements_over, totals_of}
use Rattle.totals.specs.Inner.{AllFit}
use Rattle.totals_theorems.proofs.Exact.{totals-refuses-18}
use Rattle.totals.proofs.Highs.{below-zero, high_one, low-one}
use Rattle.totals.proofs.Lists.{few-high}

-- ---- one high and one low

-- there is one
pub split-is : (sum : ℤ) → Split (high_of sum) (low_of sum) sum
unfolding high_of low_of
split-is (pos n) = record { small = omega arith; exact = ap pos (omega arith) }
split-is (negsuc n) = record {
  small = omega arith;
  exact = below-zero (n / 4294967296) (4294967295 - n % 4294967296) (omega arith) ∙ ap negsuc (omega arith);
}

-- and no other
pub split_one : (high : ℤ) (low : ℕ) (sum : ℤ) → Split high low sum → (high ≡ high_of sum) × (low ≡ low_of sum)
split_one high low sum s = (sym (high_one high low s.small) ∙ ap high_of s.exact, sym (low-one high low s.small) ∙ ap low_of s.exact)

-- ---- a window of a sound column, whose starts are i64s as those of a lent array are

abbrev pub Held : Column → Type 0
Held c = (r : ℕ) → r < runs c → mag (start_of c r) < half64

module _ (c : Column) (ok : sound c ≡ true) (held : Held c) where
  element-fits : (i : ℕ) → i < size_of c → mag (element_at c i) < half64
  element-fits i l =
      let at = located c ok i (run_of c.ends i) (offset_of c.ends i) l refl refl in
      ltb-true (mag (element_at c i)) half64 (sym (in-mag half64 (element_at c i)) ∙ ap (fits_in half64) (sym at.is) ∙ at.fits (held (run_of c.ends i) at.there))

  elements-fit : (a n : ℕ) → a + n ≤ size_of c → AllFit (elements_for (sequence_of c) a n)
  unfolding elements_for
  elements-fit a zero l = tt
  elements-fit a (suc n) l = (element-fits a (omega arith), elements-fit (suc a) n (omega arith))

  none-fit : (a : ℕ) → AllFit (elements_for (sequence_of c) a 0)
  unfolding elements_for
  none-fit a = tt

  window-fits : (start end : ℕ) → end ≤ size_of c → AllFit (elements_in (sequence_of c) start end)
  window-fits start end l = ⊎_elim
      (λ (m : start < end). elements-fit start (end - start) (omega arith))
      (λ (m : end ≤ start). let z : end - start ≡ 0 = omega arith in rw z (none-fit start))
      (lt-or-ge start end)

  -- "One window's sum always has a high"
  pub window-high : (start end : ℕ) → end ≤ size_of c → has_high (sum_of (elements_in (sequence_of c) start end)) ≡ true
  window-high start end l =
      few-high (elements_in (sequence_of c) start end) (window-fits start end l)
      (omega (arith, elements-length (sequence_of c) start (end - start), size-most c (sound-parts c ok)))

  only : (start end : ℕ) → end ≤ size_of c → has_high (sum_of (elements_over (sequence_of c) (start ∷ []) (end ∷ []))) ≡ true
  unfolding joined
  only start end l = window-high start end l

  -- so 18 is not given for one window
  pub one-window : (start end : ℕ) (rooms : List ℕ) → totals_of (source_of c) (start ∷ []) (end ∷ []) rooms ≡ Number 18 → ⊥
  one-window start end rooms h =
      let e = (totals-refuses-18 (source_of c) (start ∷ []) (end ∷ []) rooms).0 h in
      false≢true (sym e.2 ∙ only start end (ltb-false (size_of c) end (not-no _ (in_all _ 0 1 e.1.1 0 (omega arith) (omega arith)))))
