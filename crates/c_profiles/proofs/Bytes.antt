-- A number and the byte that stands for it: 1 and 2 are their own, and any other number is refused 16, as 0 is. Assumes nothing.
use Prim.Native.Nat.{ℕ}
use mathlib.Core.Path.{◌≡◌, refl, sym}
use mathlib.Core.Bool.{false}
use mathlib.Core.List.{List}
use mathlib.Core.Logic.{◌⊎◌, inl, inr}
use lib.Dec.{eqb}
use borrow.Author.Tests.{eqb-true}
use Rattle.ranges.proofs.Bools.{either}
use Rattle.meaning.specs.Refusals.{Number, tried}
use Rattle.meaning.specs.Sequence.{Source}
use Rattle.profiles.specs.Profiles.{carries_of, listed_of}
use Rattle.c_profiles.specs.Profiles.{profile_in}

-- a number is no profile
pub record NoProfile (n : ℕ) : Type 0 where
  pub not-one : eqb n 1 ≡ false
  pub not-two : eqb n 2 ≡ false

-- a number is its own byte, or neither it nor its byte is a profile
pub kind : (n : ℕ) → (profile_in n ≡ n) ⊎ (NoProfile n × NoProfile (profile_in n))
kind n = either (eqb n 1)
    (λ t. inl (rw t (sym (eqb-true n 1 t))))
    (λ t. either (eqb n 2)
    (λ u. inl (rw t (rw u (sym (eqb-true n 2 u)))))
    (λ u. inr (record { not-one = t; not-two = u }, rw t (rw u (record { not-one = refl; not-two = refl })))))

-- 16 is tried first
module _ {n : ℕ} (none : NoProfile n) (count : ℕ) (p : Source) where
  pub carries-16 : (i : ℕ) → carries_of n count p i ≡ Number 16
  unfolding carries_of tried
  carries-16 i = rw none.not-one (rw none.not-two refl)

  pub listed-16 : (end places : ℕ) (list : List ℕ) → listed_of n count p end places list ≡ Number 16
  unfolding listed_of tried
  listed-16 end places list = rw none.not-one (rw none.not-two refl)
