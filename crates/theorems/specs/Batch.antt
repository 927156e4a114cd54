-- More words of the batch listing: each window, its count, and the part of the output that it has. Assumes nothing.
use Rattle.std.specs.Prelude.{ℕ, suc, ◌+◌, Bool, cond, not, ◌&&◌, List, [], ◌∷◌, ltb, get_or, take, drop, ℤ}
use Rattle.ranges.specs.Ranges.{every}
use Rattle.meaning.specs.Sequence.{rises, elements_in}
use Rattle.bounds.specs.Bounds.{above, within}
use Rattle.loftsplice.specs.Listing.{Span, window_at, too_wide, Batch, spans, low, up, out_after, counts_after}

-- ---- one listing

-- window k: from the start at place k to the end at place k
abbrev pub span : Batch → ℕ → Span
span b k = window_at b.starts b.ends k

-- the elements of window k, and whether v meets the folded bounds
abbrev pub elements : Batch → ℕ → List ℤ
elements b k = elements_in b.source.sequence (span b k).start (span b k).end

abbrev pub meets_folded : Batch → ℤ → Bool
meets_folded b v = above (low b) v && within (up b) v

-- ---- the refusals

-- 8 BOUNDS: "over 16 bounds in a list ..; over 256 windows or window lists of unequal length"
abbrev pub wide : Batch → Bool
wide b = too_wide b.starts b.ends b.lower.count b.upper.count

-- each window ends at or before the column does, and each rises
abbrev pub all_inside : Batch → Bool
all_inside b = every (λ (w : Span). not (ltb b.source.sequence.size w.end)) (spans b)

abbrev pub all_rise : Batch → Bool
all_rise b = every (λ (w : Span). rises b.source.sequence w.start w.end) (spans b)

-- ---- each window's part

-- "The answer is the number written per window, in a lent array of counts, and their sum."
unfoldable pub total : List ℕ → ℕ
total [] = 0
total (n ∷ ns) = n + total ns

-- "a made-up count (it is the number of elements that meet the folded bounds)": how many of a list meet a test
unfoldable pub how_many : (ℤ → Bool) → List ℤ → ℕ
how_many meets [] = 0
how_many meets (x ∷ xs) = cond (meets x) (suc (how_many meets xs)) (how_many meets xs)

-- the count of window k, and the place of the output "from where the last one stopped": after as many as the counts before it say
abbrev pub count : Batch → ℕ → ℕ
count b k = get_or (counts_after b) k 0

abbrev pub begin : Batch → ℕ → ℕ
begin b k = total (take k (counts_after b))

-- the part of the output that window k has: as many places from there on as its count says
abbrev pub part : Batch → ℕ → List ℤ
part b k = take (count b k) (drop (begin b k) (out_after b))
