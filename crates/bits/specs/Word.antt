-- Eight bytes as one number, and the records that are looked for. Of the public calls `window` alone names it. Assumes nothing.
use Rattle.std.specs.Prelude.{ℕ, ◌+◌, ◌-◌, ◌*◌, ◌/◌, ◌%◌, ◌^◌, Bool, not, cond, List, get_or}
use Rattle.bits.specs.Bitmap.{present}

abbrev pub byte_at : List ℕ → ℕ → ℕ
byte_at bs j = get_or bs j 0

-- lowest first; a byte that is not there is 0
abbrev pub word_at : List ℕ → ℕ → ℕ
word_at bs j =
    byte_at bs j + byte_at bs (j + 1) * 256 + byte_at bs (j + 2) * 65536 + byte_at bs (j + 3) * 16777216
    + byte_at bs (j + 4) * 4294967296 + byte_at bs (j + 5) * 1099511627776 + byte_at bs (j + 6) * 281474976710656 + byte_at bs (j + 7) * 72057594037927936

-- the same with its bits turned, where absent records are looked for
abbrev pub sought_at : Bool → List ℕ → ℕ → ℕ
sought_at here bs j = cond here (word_at bs j) (18446744073709551615 - word_at bs j)

-- whether record i is one that is looked for: a present one, or an absent one
abbrev pub sought : Bool → List ℕ → ℕ → Bool
sought here bs i = cond here (present bs i) (not (present bs i))

-- what is looked for from record a on, at the lowest bits
abbrev pub window_at : Bool → List ℕ → ℕ → ℕ
window_at here bs a = sought_at here bs (a / 8) / 2 ^ (a % 8)
