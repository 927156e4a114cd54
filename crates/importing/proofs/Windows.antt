-- What is left of a window tells: the next record, and what is left behind that. Assumes nothing.
use Prim.Native.Nat.{ℕ, ◌+◌, ◌/◌, ◌^◌, ◌<◌, ◌≤◌}
use mathlib.Core.Path.{◌≡◌, refl, ap, ◌∙◌}
use mathlib.Core.Bool.{true}
use mathlib.Core.List.{List}
use native.Mathlib.Omega.{arith}
use lib.Count.{count_trailing_zeros}
use lib.Pow.{shr-shr}
use Rattle.ranges.specs.Ranges.{first_from}
use Rattle.bits.specs.Bitmap.{present}
use Rattle.bits.specs.Word.{byte_at, window_at}
use Rattle.bits.proofs.Next.{window-first, window-near}
use Rattle.importing.specs.Inner.{Behind}

-- a window that begins at the record itself
pub behind-new : (bs : List ℕ) (count at : ℕ) → at + 64 ≤ count → Behind bs count at (window_at true bs at / 2)
behind-new bs count at l = record { base = at; gone = 1; is = refl; from = refl; inside = l }

module _ (bs : List ℕ) (count at shown : ℕ) (bytes : (k : ℕ) → byte_at bs k < 256) (some : 0 < shown) (b : Behind bs count at shown) where
  near : b.base + b.gone + count_trailing_zeros 64 shown < b.base + 64
  near = window-near true bs b.base b.gone shown bytes b.is some

  pub behind-few : count_trailing_zeros 64 shown < 64
  behind-few = omega (arith, near)

  -- the next record
  module _ (next : ℕ) (e : next ≡ at + 1 + count_trailing_zeros 64 shown) where
    pub behind-first : next ≡ first_from (present bs) (at + 1) count
    behind-first =
        let f : b.base + b.gone + count_trailing_zeros 64 shown ≡ first_from (present bs) (b.base + b.gone) count = window-first true bs b.base b.gone shown bytes b.is some count b.inside in
        e ∙ rw b.from f

    pub behind-near : next < count
    behind-near = omega (arith, near, b.from, b.inside)

    pub behind_more : Behind bs count next (shown / 2 ^ count_trailing_zeros 64 shown / 2)
    behind_more = record {
      base = b.base;
      gone = b.gone + (count_trailing_zeros 64 shown + 1);
      is = shr-shr shown (count_trailing_zeros 64 shown) 1 ∙ ap (λ (x : ℕ). x / 2 ^ (count_trailing_zeros 64 shown + 1)) b.is ∙ shr-shr (window_at true bs b.base) b.gone (count_trailing_zeros 64 shown + 1);
      from = omega (arith, b.from);
      inside = b.inside;
    }
