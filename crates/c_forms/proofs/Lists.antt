-- Lists that belong together: the test of them, and the arrays that are filled from them. Assumes nothing.
use Prim.Native.Nat.{ℕ, suc, ◌+◌, ◌≤◌, ◌<◌}
use mathlib.Core.Path.{◌≡◌, refl, ◌∙◌}
use mathlib.Core.Bool.{Bool, true, false}
use mathlib.Core.List.{List, ◌++◌, append-nil}
use native.Mathlib.Omega.{arith}
use native.Mathlib.Numerals.{add-one}
use lib.ListN.{length, drop, get_or, set, drop_of_length-le}
use lib.Seq.{drop-cons}
use Rattle.ranges.specs.Ranges.{every}
use Rattle.meaning.specs.Parts.{joined, each}
use Rattle.meaning.proofs.Parts.{each-length}
use Rattle.meaning.proofs.Paste.{push}

-- ---- a test of each, from the place i on

module _ (p : ℕ → Bool) (l : List ℕ) (i : ℕ) (h : i < length l) where
  pub every_here : p (get_or l i 0) ≡ true → every p (drop i l) ≡ every p (drop (suc i) l)
  unfolding every
  every_here e = rw (drop-cons l i 0 h, e)

  pub every-not : p (get_or l i 0) ≡ false → every p (drop i l) ≡ false
  unfolding every
  every-not e = rw (drop-cons l i 0 h, e)

pub every-end : (p : ℕ → Bool) (l : List ℕ) (i : ℕ) → length l ≤ i → every p (drop i l) ≡ true
unfolding every
every-end p l i h = rw (drop_of_length-le l {i = i} h)

-- ---- an array that is filled from the front on

-- the first i places of n are filled, by f; the others are as they were in d
pub record Filling {A : Type 0} (f : ℕ → A) (n : ℕ) (d items : List A) (i : ℕ) : Type 0 where
  pub upto : i ≤ n
  pub long : length d ≡ n
  pub is : items ≡ each f i ++ drop i d

module _ {A : Type 0} (f : ℕ → A) (n : ℕ) (d : List A) where
  pub filling-start : length d ≡ n → Filling f n d d 0
  unfolding joined
  filling-start h = record { upto = omega arith; long = h; is = refl }

  pub filling-more : (items : List A) (i : ℕ) (v : A) → Filling f n d items i → i < n → v ≡ f i → Filling f n d (set items i v) (i + 1)
  unfolding joined
  filling-more items i v s h e =
      record { upto = omega arith; long = s.long; is = rw (s.is, e, add-one) (push (each f i) d i (each-length f i) (f i) (omega (arith, s.long))) }

  pub filling-all : (items : List A) (i : ℕ) → Filling f n d items i → n ≤ i → items ≡ each f n
  filling-all items i s h =
      let e : i ≡ n = omega (arith, s.upto) in
      s.is ∙ rw (drop_of_length-le d {i = i} (omega (arith, s.long)), append-nil, e)
