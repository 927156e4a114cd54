-- A list, and the column that is built from it: the same elements at the same indices, so what one holds the other does, and one rises where the other
-- does. Assumes nothing.
use Rattle.std.proofs.Common.{◌≡◌, ℕ, zero, suc, ◌+◌, ◌-◌, ◌<◌, ◌≤◌, true, ◌↔◌, List, [], ◌∷◌, length, get_or, ℤ, pos, sym, ap, ◌∙◌, inl, inr, arith}
use lib.Signed.{lt_z}
use Rattle.keys.specs.Widths.{fits_in, half64}
use Rattle.ranges.proofs.Bools.{In}
use Rattle.ranges.proofs.Spans.{in_all, all-in}
use Rattle.meaning.specs.Sequence.{Sequence, elements_for, rises}
use Rattle.meaning.specs.Column.{size_of, element_at, sequence_of}
use Rattle.build.specs.Rule.{built_from}
use Rattle.build.specs.Pieces.{listed}
use Rattle.build.proofs.Columns.{in-here, built-size}
use Rattle.build.proofs.Again.{elements-again}

elements-at : (q : Sequence) (a n i : ℕ) → i < n → get_or (elements_for q a n) i (pos 0) ≡ q.at (a + i)
unfolding elements_for
elements-at q a zero i l = absurd (omega arith)
elements-at q a (suc n) zero l = ap q.at (omega arith)
elements-at q a (suc n) (suc i) l = elements-at q (suc a) n i (omega arith) ∙ ap q.at (omega arith)

-- where a value of a list stands
stands : (xs : List ℤ) (k : ℤ) → In k xs → (i : ℕ) × (i < length xs) × (get_or xs i (pos 0) ≡ k)
stands [] k i = absurd i
stands (x ∷ xs) k (inl e) = (0, omega arith, sym e)
stands (x ∷ xs) k (inr j) = let w : (i : ℕ) × (i < length xs) × (get_or xs i (pos 0) ≡ k) = stands xs k j in (suc w.0, omega (arith, w.1), w.2)

module _ (xs : List ℤ) (fits : (v : ℤ) → In v xs → fits_in half64 v ≡ true) where
  -- "the elements are the list again", index by index
  pub built-at : (i : ℕ) → i < length xs → element_at (built_from xs) i ≡ get_or xs i (pos 0)
  built-at i l =
      let m : i < size_of (built_from xs) - 0 = omega (arith, built-size xs fits) in
      ap (element_at (built_from xs)) (omega arith) ∙ sym (elements-at (sequence_of (built_from xs)) 0 (size_of (built_from xs) - 0) i m) ∙ ap (λ ys. get_or ys i (pos 0)) (elements-again xs fits)

  -- a number is an element exactly if it is in the list
  pub built-holds : (k : ℤ) → ((i : ℕ) × (0 ≤ i) × (i < size_of (built_from xs)) × (element_at (built_from xs) i ≡ k)) ↔ In k xs
  built-holds k = (
    λ w. let l : w.0 < length xs = omega (arith, w.2, built-size xs fits) in
        rw (sym w.3, built-at w.0 l) (in-here xs w.0 (pos 0) l),
    λ j. let w = stands xs k j in (w.0, omega arith, omega (arith, w.1, built-size xs fits), built-at w.0 w.1 ∙ w.2),
  )

  -- the column rises where the list does
  pub built-rises : rises (listed xs) 0 (length xs) ≡ true → rises (sequence_of (built_from xs)) 0 (size_of (built_from xs)) ≡ true
  unfolding rises
  built-rises h = all-in (λ i. lt_z (element_at (built_from xs) i) (element_at (built_from xs) (suc i))) 0 (size_of (built_from xs) - 1)
      (λ i u l.
      let m : suc i < length xs = omega (arith, l, built-size xs fits) in
      rw (built-at i (omega arith), built-at (suc i) m) (in_all (λ j. lt_z (get_or xs j (pos 0)) (get_or xs (suc j) (pos 0))) 0 (length xs - 1) h i u (omega arith)))
