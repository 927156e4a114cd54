-- A whole number as decimal text. Assumes nothing.
use Rattle.std.specs.Prelude.{ℕ, suc, ◌^◌, List, ◌∷◌, ltb, ℤ, pos, negsuc}
use Rattle.ranges.specs.Ranges.{first_from}
use Rattle.io.specs.Digits.{last_digits}

-- how many digits a number has: the least k, from 1 on, with n < 10 ^ k
unfoldable pub width_of : ℕ → ℕ
width_of n = first_from (λ (k : ℕ). ltb n (10 ^ k)) 1 (suc (suc n))

-- its digits in ASCII, the first one no 0 unless it is the only one
unfoldable pub digits_of : ℕ → List ℕ
digits_of n = last_digits 10 (width_of n) n

-- a minus before those of a number below zero
unfoldable pub text_of : ℤ → List ℕ
text_of (pos n) = digits_of n
text_of (negsuc n) = 45 ∷ digits_of (suc n)
