-- Document 02, request 11: "the element count, the least, the greatest and the sum", of any elements. Assumes nothing.
use Rattle.std.specs.Prelude.{ℕ, ◌-◌, ◌/◌, ◌%◌, ◌<◌, ◌≡◌, Bool, cond, List, [], ◌∷◌, length, ℤ, pos, negsuc, ◌+ℤ◌, ◌*ℤ◌}
use Rattle.std.specs.Int.Signed.{lt_z}
use Rattle.keys.specs.Widths.{fits_in, half64}
use Rattle.totals.specs.declared.Total.{Total}
use Rattle.totals.specs.declared.Edges.{Edges}
use Rattle.totals.specs.declared.Edges.TheVariants.{None, Are}

-- ---- the sum

-- "The total equals adding the elements one after the other": to a sum so far, and from 0 on
unfoldable pub added_to : ℤ → List ℤ → ℤ
added_to sum [] = sum
added_to sum (x ∷ xs) = added_to (sum +ℤ x) xs

abbrev pub sum_of : List ℤ → ℤ
sum_of xs = added_to (pos 0) xs

-- "sum = high × 4,294,967,296 + low"
abbrev pub worth : ℤ → ℕ → ℤ
worth high low = high *ℤ pos 4294967296 +ℤ pos low

-- "two whole numbers, high and low, with sum = high × 4,294,967,296 + low, low from 0 up to 4,294,967,295"
pub record Split (high : ℤ) (low : ℕ) (sum : ℤ) : Type 0 where
  pub small : low < 4294967296
  pub exact : worth high low ≡ sum

-- the one high and the one low that a sum has (theorem `split_one`): division that rounds down
unfoldable pub high_of : ℤ → ℤ
high_of (pos n) = pos (n / 4294967296)
high_of (negsuc n) = negsuc (n / 4294967296)

unfoldable pub low_of : ℤ → ℕ
low_of (pos n) = n % 4294967296
low_of (negsuc n) = 4294967295 - n % 4294967296

-- "high an i64"
unfoldable pub has_high : ℤ → Bool
has_high sum = fits_in half64 (high_of sum)

-- ---- the least and the greatest

abbrev pub lesser : ℤ → ℤ → ℤ
lesser x y = cond (lt_z y x) y x

abbrev pub greater : ℤ → ℤ → ℤ
greater x y = cond (lt_z x y) y x

-- with one element more
unfoldable pub widened : ℤ → Edges → Edges
widened x None = Are x x
widened x (Are least greatest) = Are (lesser x least) (greater x greatest)

-- "the least, the greatest" of the elements; "neither least nor greatest" where there are none
unfoldable pub edges_of : List ℤ → Edges
edges_of [] = None
edges_of (x ∷ xs) = widened x (edges_of xs)

-- ---- all of it

unfoldable pub total_of : List ℤ → Total
total_of xs = record { count = length xs; edges = edges_of xs; high = high_of (sum_of xs); low = low_of (sum_of xs) }
