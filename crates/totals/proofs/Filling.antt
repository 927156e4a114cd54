-- Outputs that are filled from the front on, place by place. Assumes nothing.
use Prim.Native.Nat.{ℕ, ◌+◌, ◌≤◌}
use mathlib.Core.Path.{◌≡◌, refl, ap, ◌∙◌}
use mathlib.Core.List.{List, ◌++◌}
use native.Mathlib.Omega.{arith}
use borrow.Author.Tests.{ne_eqb}
use lib.ListN.{length, get_or, take, drop}
use lib.Seq.{sets, take_at, get_or-append-add, get_or-drop}
use lib.IntN.{ℤ}
use Rattle.meaning.specs.Parts.{each}
use Rattle.meaning.proofs.Parts.{filled, each-length, each-is}
use Rattle.totals.specs.Inner.{held_of}

module _ (count : ℕ) (value old : ℤ) where
  pub held-old : count ≡ 0 → old ≡ held_of count value old
  held-old e = rw e

  pub held_new : (count ≡ 0 → ⊥) → value ≡ held_of count value old
  held_new n = rw (ne_eqb count 0 n)

module _ {A : Type 0} where
  -- a list written place by place
  pub filled-by : (d : A) (values out old : List A) (k : ℕ) → k ≡ length values → length values ≤ length old → out ≡ sets old 0 (each (λ j. get_or values j d) k)
      → out ≡ values ++ drop (length values) old
  filled-by d values out old k e l is =
      let all : each (λ j. get_or values j d) (length values) ≡ values = each-is (λ j. get_or values j d) d values (length values) refl (λ j m. refl) in
      is ∙ rw (e, all) (filled values old l)

  -- the first n places, where n are filled
  pub filled-front : (value : ℕ → A) (out old : List A) (n : ℕ) → n ≤ length old → out ≡ sets old 0 (each value n) → take n out ≡ each value n
  filled-front value out old n l is =
      ap (take n) (is ∙ filled (each value n) old (rw each-length l)) ∙ take_at (each value n) (drop (length (each value n)) old) n (each-length value n)

  -- a place that is not filled yet
  pub unwritten : (value : ℕ → A) (d : A) (out old : List A) (k : ℕ) → k ≤ length old → out ≡ sets old 0 (each value k) → get_or out k d ≡ get_or old k d
  unwritten value d out old k l is =
      let e : k ≡ length (each value k) + 0 = omega (arith, each-length value k) in
      let f : length (each value k) + 0 ≡ k = omega (arith, each-length value k) in
      ap (λ xs. get_or xs k d) (is ∙ filled (each value k) old (rw each-length l))
      ∙ ap (λ j. get_or (each value k ++ drop (length (each value k)) old) j d) e
      ∙ get_or-append-add (each value k) (drop (length (each value k)) old) 0 d ∙ get_or-drop (length (each value k)) old 0 d ∙ ap (λ j. get_or old j d) f
