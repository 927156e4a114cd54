-- Document 02, request 3: "record i is bit i mod 8 of byte i / 8, lowest bit first, 1 for present". Assumes nothing.
use Rattle.std.specs.Prelude.{ℕ, zero, suc, ◌+◌, ◌*◌, ◌/◌, ◌%◌, ◌^◌, Bool, cond, List, [], ◌∷◌, eqb, get_or}

-- bit k of a number, lowest first
abbrev pub digit : ℕ → ℕ → ℕ
digit n k = n / 2 ^ k % 2

-- whether it is 1
unfoldable pub is_set : ℕ → ℕ → Bool
is_set n k = eqb (digit n k) 1

-- whether record i is present; past the last byte none is
unfoldable pub present : List ℕ → ℕ → Bool
present bytes i = is_set (get_or bytes (i / 8) 0) (i % 8)

-- at how many of the n numbers from a on a test holds
unfoldable pub count_for : (ℕ → Bool) → ℕ → ℕ → ℕ
count_for p a zero = zero
count_for p a (suc n) = cond (p a) 1 0 + count_for p (suc a) n

-- the number whose k lowest bits are what the test says at a, a + 1, ..
unfoldable pub byte_of : (ℕ → Bool) → ℕ → ℕ → ℕ
byte_of p a zero = 0
byte_of p a (suc k) = cond (p a) 1 0 + 2 * byte_of p (suc a) k

-- the bitmap of a test, of n bytes, from record a on
unfoldable pub bitmap_of : (ℕ → Bool) → ℕ → ℕ → List ℕ
bitmap_of p a zero = []
bitmap_of p a (suc n) = byte_of p a 8 ∷ bitmap_of p (a + 8) n

-- the bytes of a bitmap of count records
abbrev pub bytes_for : ℕ → ℕ
bytes_for count = (count + 7) / 8
