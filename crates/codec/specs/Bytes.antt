-- Document 01, "Stored record": numbers as bytes, over the number of bytes. Assumes nothing.
use Rattle.std.specs.Prelude.{ℕ, zero, suc, ◌+◌, ◌-◌, ◌*◌, ◌/◌, ◌%◌, ◌^◌, cond, List, [], ◌∷◌, ltb, take, drop, ℤ, pos, negsuc}

-- "Little-endian": the number that bytes make, the least byte first,
unfoldable pub le_val : List ℕ → ℕ
le_val [] = 0
le_val (b ∷ bs) = b + 256 * le_val bs

-- and the k bytes of a number
unfoldable pub le_bytes : ℕ → ℕ → List ℕ
le_bytes zero x = []
le_bytes (suc k) x = x % 256 ∷ le_bytes k (x / 256)

-- "two's complement": the signed number of k bytes that the number x stands for,
unfoldable pub to_signed : ℕ → ℕ → ℤ
to_signed k x = cond (ltb (x * 2) (256 ^ k)) (pos x) (negsuc (256 ^ k - suc x))

-- and the number that stands for a signed one
unfoldable pub of_signed : ℕ → ℤ → ℕ
of_signed k (pos n) = n
of_signed k (negsuc n) = 256 ^ k - suc n

-- a signed number read from k bytes, and written in k bytes
abbrev pub decode : ℕ → List ℕ → ℤ
decode k bs = to_signed k (le_val bs)

abbrev pub encode : ℕ → ℤ → List ℕ
encode k z = le_bytes k (of_signed k z)

-- the k bytes from a place on
abbrev pub bytes_at : List ℕ → ℕ → ℕ → List ℕ
bytes_at bytes at k = take k (drop at bytes)
