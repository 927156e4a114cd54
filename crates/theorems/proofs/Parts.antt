-- The values and counts of windows that are listed one after the other: which part each has, and how many there are. Assumes nothing.
use Prim.Native.Nat.{ℕ, zero, suc, ◌+◌, ◌<◌}
use mathlib.Core.Path.{◌≡◌, refl, ap}
use mathlib.Core.Bool.{Bool}
use mathlib.Core.List.{List, [], ◌∷◌, ◌++◌, append_assoc}
use native.Mathlib.Omega.{arith}
use lib.ListN.{length, get_or, take, drop, length-append}
use lib.Seq.{take-append_seam, drop-append-add}
use lib.IntN.{ℤ}
use Rattle.ranges.proofs.Bools.{either}
use Rattle.meaning.specs.Sequence.{Sequence}
use Rattle.bounds.specs.declared.Limit.{Limit}
use Rattle.loftsplice.specs.Listing.{Span, those, values_in, values_of, counts_of}
use Rattle.theorems.specs.Batch.{total, how_many}

-- those of a list that meet a test are as many as meet it
pub those-number : (meets : ℤ → Bool) (xs : List ℤ) → length (those meets xs) ≡ how_many meets xs
unfolding those how_many
those-number meets [] = refl
those-number meets (x ∷ xs) = either (meets x) (λ t. rw t (ap suc (those-number meets xs))) (λ t. rw t (those-number meets xs))

-- one more
pub total-more : (ns : List ℕ) (k : ℕ) → total (take (suc k) ns) ≡ total (take k ns) + get_or ns k 0
unfolding total
total-more [] zero = refl
total-more [] (suc k) = refl
total-more (n ∷ ns) zero = omega arith
total-more (n ∷ ns) (suc k) = omega (arith, total-more ns k)

module _ (q : Sequence) (low up : Limit) where
  -- there are as many values as the counts say
  pub values-total : (ws : List Span) → length (values_of q low up ws) ≡ total (counts_of q low up ws)
  unfolding values_of counts_of total
  values-total [] = refl
  values-total (w ∷ ws) = rw (length-append, values-total ws)

  -- the count at place k is that of window k
  pub count-at : (ws : List Span) (k : ℕ) (z : Span) → k < length ws → get_or (counts_of q low up ws) k 0 ≡ length (values_in q low up (get_or ws k z))
  unfolding counts_of
  count-at [] k z l = absurd (omega arith)
  count-at (w ∷ ws) zero z l = refl
  count-at (w ∷ ws) (suc k) z l = count-at ws k z (omega arith)

  -- and so many, after those that the counts before it say, are its values
  pub values-at : (ws : List Span) (k : ℕ) (z : Span) (rest : List ℤ) → k < length ws
      → take (get_or (counts_of q low up ws) k 0) (drop (total (take k (counts_of q low up ws))) (values_of q low up ws ++ rest)) ≡ values_in q low up (get_or ws k z)
  unfolding counts_of values_of total
  values-at [] k z rest l = absurd (omega arith)
  values-at (w ∷ ws) zero z rest l = rw append_assoc (take-append_seam (values_in q low up w) (values_of q low up ws ++ rest))
  values-at (w ∷ ws) (suc k) z rest l = rw (append_assoc, drop-append-add (values_in q low up w) (values_of q low up ws ++ rest)) (values-at ws k z rest (omega arith))
