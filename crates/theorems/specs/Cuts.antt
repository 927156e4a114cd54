-- Document 02, request 13, "Cut windows, chained seeks": the words, and its rows of the table. Assumes nothing.
use Rattle.std.specs.Prelude.{ℕ, suc, ◌<◌, ◌≡◌, Bool, true, ◌&&◌, List, [], ◌∷◌, ◌++◌, map, leb, length, ℤ, pos}
use Rattle.std.proofs.Math.Option.{Option, some, none}
use Rattle.ranges.specs.Ranges.{some_of}
use Rattle.meaning.specs.Refusals.{Said, Gives, Number}
use Rattle.meaning.specs.Sequence.{Source}
use Rattle.meaning.specs.Column.{Column, source_of}
use Rattle.bounds.specs.declared.BoundaryType.TheVariants.{Inclusive}
use Rattle.bounds.specs.declared.Bound.{Bound}
use Rattle.bounds.specs.declared.Mode.TheVariants.{InclusiveWins}
use Rattle.bounds.specs.declared.Limit.TheVariants.{Free, To}
use Rattle.loftsplice.specs.declared.scan.Move.TheVariants.{Next, Seek}
use Rattle.loftsplice.specs.declared.scan.State.TheVariants.{Fresh, Ended}
use Rattle.loftsplice.specs.declared.scan.Carried.TheVariants.{None as Nothing}
use Rattle.loftsplice.specs.declared.scan.Scan.{Scan}
use Rattle.loftsplice.specs.Scan.{Outcome, seek_of, Call, Go}
use Rattle.loftsplice.specs.Listing.{Span, windows, Batch, list_of}
use Rattle.filter_interval.specs.declared.Filter.{Filter}
use Rattle.filter_interval.specs.declared.FilterState.TheVariants.{Within}
use Rattle.filter_interval.specs.Filter.{Sifting, call_of, Call as FilterCall}
use Rattle.theorems.specs.Exact.{accepted}
use Rattle.theorems.specs.Runs.{is_none}
use Rattle.theorems.specs.Batch.{span, part, count}
use Rattle.theorems.specs.Table.{Row, own, Seen, scanned, filtered, listed, column, run, seek, acts, scan, FilterAct, again, call, sifts, at_most, filter, list, these, bound, value, nothing, index, no_index}
use Rattle.theorems.specs.Carried.{ten, by_hand, held, six}

-- ---- cut windows

-- "any middle between them, both ends allowed", for any number of cuts: none is below the one before, the first not below the start, the last not above the end
unfoldable pub ordered : ℕ → List ℕ → ℕ → Bool
ordered start [] end = leb start end
ordered start (m ∷ ms) end = leb start m && ordered m ms end

-- "start..middle followed by that of middle..end": where the parts start, where they end, and how many there are
abbrev pub part_starts : ℕ → List ℕ → List ℕ
part_starts start ms = start ∷ ms

abbrev pub part_ends : List ℕ → ℕ → List ℕ
part_ends ms end = ms ++ (end ∷ [])

abbrev pub part_count : List ℕ → ℕ
part_count ms = suc (length ms)

abbrev pub parts : ℕ → List ℕ → ℕ → List Span
parts start ms end = windows (part_starts start ms) (part_ends ms end)

abbrev pub window : ℕ → ℕ → Span
window start end = record { start = start; end = end }

-- a listing called with the parts as its windows, all else as in b; with no cut it is called with the whole
abbrev pub cut_at : Batch → ℕ → List ℕ → ℕ → Batch
cut_at b start ms end =
    record { source = b.source; starts = part_starts start ms; ends = part_ends ms end; mode = b.mode; lower = b.lower; upper = b.upper; out = b.out; counts = b.counts }

abbrev pub whole : Batch → ℕ → ℕ → Batch
whole b start end = cut_at b start [] end

-- ---- "listed by several people, each with a part"

-- one's part: a listing that he called, with an output of his own, and the place of the part's window in it
pub record Share : Type 0 where
  pub batch : Batch
  pub place : ℕ

-- his listing was accepted, of the column, in the mode and "under the same constant bounds" of b
pub record Shares (b : Batch) (x : Share) : Type 0 where
  pub fine : accepted (list_of x.batch) ≡ true
  pub there : x.place < length x.batch.starts
  pub same_source : x.batch.source ≡ b.source
  pub same-mode : x.batch.mode ≡ b.mode
  pub same-lower : x.batch.lower ≡ b.lower
  pub same-upper : x.batch.upper ≡ b.upper

-- the window of each, the count of each, and what all of them were given, one after the other
abbrev pub share_windows : List Share → List Span
share_windows xs = map (λ (x : Share). span x.batch x.place) xs

abbrev pub share_counts : List Share → List ℕ
share_counts xs = map (λ (x : Share). count x.batch x.place) xs

unfoldable pub together : List Share → List ℤ
together [] = []
together (x ∷ xs) = part x.batch x.place ++ together xs

-- ---- runs of next

-- what calls were given, and that they were made until one answered none
abbrev pub value_in : Said (Option ℤ) → List ℤ
value_in (Gives (some v)) = v ∷ []
value_in (Gives none) = []
value_in (Number n) = []

unfoldable pub given : List (Said (Option ℤ)) → List ℤ
given [] = []
given (a ∷ rest) = value_in a ++ given rest

abbrev pub until_none : List (Said (Option ℤ)) → Bool
until_none answers = some_of is_none answers

-- ---- chained seeks

-- "seeking a first target and then a second": the second seek is of the scan that the first handed back
abbrev pub seek_then : Source → ℤ → ℤ → Scan → Outcome
seek_then p first second s = seek_of p second (seek_of p first s).scan

-- the same of two calls on a filter
abbrev pub ask_then : Source → FilterCall → FilterCall → Filter → Sifting
ask_then p first second f = call_of p second (call_of p first f).filter

-- seeks one after the other, as calls
abbrev pub seek_each : List ℤ → List Call
seek_each ks = map Go (map Seek ks)

-- ---- rows of the table: where the facts hold and where they end, each in the smallest column that shows it

-- 10 20; and 10 10, which doesn't rise
abbrev pub two : Column
two = column (run 10 (pos 10) 2 ∷ [])

abbrev pub level : Column
level = column (run 10 (pos 0) 2 ∷ [])

-- windows without bounds, into an output of three places that holds 1 2 3 and three counts that hold 7
abbrev pub lists : Column → List ℕ → List ℕ → Seen
lists c ss es = list c ss es (these []) (these []) (map pos (1 ∷ 2 ∷ 3 ∷ [])) (7 ∷ 7 ∷ 7 ∷ [])

-- seeks through a new filter with these lower bounds and no upper ones
abbrev pub asks : Column → List Bound → List ℕ → Seen
asks c lows xs = filter c (these lows) (these []) (map (λ x. call (Seek (pos x))) xs)

-- calls on a filter put together by hand over a fresh scan of 10, "from 1 on", which keeps "at most 5"
abbrev pub keeps_at_most5 : List FilterAct → Seen
keeps_at_most5 as' =
    filtered (sifts (source_of ten) as' (record { scan = by_hand 1 Fresh Nothing; mode = InclusiveWins; lower = To (bound Inclusive 1); upper = Free; state = Within (To (bound Inclusive 5)) }))

abbrev pub cut_table : List Row
cut_table =
    -- 10 20, whole, and at its three middles, "both ends allowed"
    own (lists two (0 ∷ []) (2 ∷ [])) (listed (Gives 2) (map pos (10 ∷ 20 ∷ 3 ∷ [])) (2 ∷ 7 ∷ 7 ∷ []))
    ∷ own (lists two (0 ∷ 0 ∷ []) (0 ∷ 2 ∷ [])) (listed (Gives 2) (map pos (10 ∷ 20 ∷ 3 ∷ [])) (0 ∷ 2 ∷ 7 ∷ []))
    ∷ own (lists two (0 ∷ 1 ∷ []) (1 ∷ 2 ∷ [])) (listed (Gives 2) (map pos (10 ∷ 20 ∷ 3 ∷ [])) (1 ∷ 1 ∷ 7 ∷ []))
    ∷ own (lists two (0 ∷ 2 ∷ []) (2 ∷ 2 ∷ [])) (listed (Gives 2) (map pos (10 ∷ 20 ∷ 3 ∷ [])) (2 ∷ 0 ∷ 7 ∷ []))
    -- a middle above the end: 0..0 is empty, 0..1 and 1..0 have 10; a middle below the start: 1..1 is empty, 1..0 and 0..1 have 10
    ∷ own (lists ten (0 ∷ []) (0 ∷ [])) (listed (Gives 0) (map pos (1 ∷ 2 ∷ 3 ∷ [])) (0 ∷ 7 ∷ 7 ∷ []))
    ∷ own (lists ten (0 ∷ 1 ∷ []) (1 ∷ 0 ∷ [])) (listed (Gives 1) (map pos (10 ∷ 2 ∷ 3 ∷ [])) (1 ∷ 0 ∷ 7 ∷ []))
    ∷ own (lists ten (1 ∷ []) (1 ∷ [])) (listed (Gives 0) (map pos (1 ∷ 2 ∷ 3 ∷ [])) (0 ∷ 7 ∷ 7 ∷ []))
    ∷ own (lists ten (1 ∷ 0 ∷ []) (0 ∷ 1 ∷ [])) (listed (Gives 1) (map pos (10 ∷ 2 ∷ 3 ∷ [])) (0 ∷ 1 ∷ 7 ∷ []))
    -- a window that doesn't rise is refused though its parts are not
    ∷ own (lists level (0 ∷ []) (2 ∷ [])) (listed (Number 7) (map pos (1 ∷ 2 ∷ 3 ∷ [])) (7 ∷ 7 ∷ 7 ∷ []))
    ∷ own (lists level (0 ∷ 1 ∷ []) (1 ∷ 2 ∷ [])) (listed (Gives 2) (map pos (10 ∷ 10 ∷ 3 ∷ [])) (1 ∷ 1 ∷ 7 ∷ []))
    -- two parts want two places of the counts
    ∷ own (list ten (0 ∷ 1 ∷ []) (1 ∷ 1 ∷ []) (these []) (these []) (pos 1 ∷ []) (7 ∷ [])) (listed (Number 10) (pos 1 ∷ []) (7 ∷ []))
    -- chained seeks: 10 and then 11, and 11 at once; a second target below the first does not do
    ∷ own (scan ten (seek 10 ∷ seek 11 ∷ [])) (scanned (value 10 ∷ nothing ∷ []) no_index)
    ∷ own (scan ten (seek 11 ∷ [])) (scanned (nothing ∷ []) no_index)
    ∷ own (scan ten (seek 11 ∷ seek 10 ∷ [])) (scanned (nothing ∷ nothing ∷ []) no_index)
    ∷ own (scan ten (seek 10 ∷ [])) (scanned (value 10 ∷ []) (index 0))
    -- a first seek that is refused, 7 or 6: so is the second, as it is at once
    ∷ own (scan level (seek 10 ∷ seek 11 ∷ [])) (scanned (Number 7 ∷ Number 7 ∷ []) no_index)
    ∷ own (scan level (seek 11 ∷ [])) (scanned (Number 7 ∷ []) no_index)
    ∷ own (acts ten (by_hand 1 Fresh (held 10)) (seek 10 ∷ seek 11 ∷ [])) (scanned (six ∷ six ∷ []) (Number 6))
    -- an ended scan stays ended
    ∷ own (acts ten (by_hand 1 Ended Nothing) (seek 10 ∷ seek 11 ∷ [])) (scanned (nothing ∷ nothing ∷ []) no_index)
    ∷ own (acts ten (by_hand 1 Ended Nothing) (seek 11 ∷ [])) (scanned (nothing ∷ []) no_index)
    -- a filter that is Before with no lower bound ignores the target of its first seek, and not that of its second
    ∷ own (asks ten [] (10 ∷ 11 ∷ [])) (filtered (value 10 ∷ nothing ∷ []))
    ∷ own (asks ten [] (11 ∷ [])) (filtered (value 10 ∷ []))
    -- with one it does not; and over no elements it has none to give
    ∷ own (asks ten (bound Inclusive 1 ∷ []) (10 ∷ 11 ∷ [])) (filtered (value 10 ∷ nothing ∷ []))
    ∷ own (asks ten (bound Inclusive 1 ∷ []) (11 ∷ [])) (filtered (nothing ∷ []))
    ∷ own (asks (column []) [] (10 ∷ 11 ∷ [])) (filtered (nothing ∷ nothing ∷ []))
    ∷ own (asks (column []) [] (11 ∷ [])) (filtered (nothing ∷ []))
    -- a filter that is Within "at most 10" over 10 20: a first seek of 11 leaves it After and its scan on 20, where a seek of 21 at once leaves the scan
    -- ended; both answer none, and a reset shows the difference
    ∷ own (filter two (these (bound Inclusive 1 ∷ [])) (these []) (at_most 10 ∷ call (Seek (pos 11)) ∷ call (Seek (pos 21)) ∷ again ∷ call Next ∷ []))
    (filtered (value 10 ∷ nothing ∷ nothing ∷ nothing ∷ value 20 ∷ []))
    ∷ own (filter two (these (bound Inclusive 1 ∷ [])) (these []) (at_most 10 ∷ call (Seek (pos 21)) ∷ again ∷ call Next ∷ []))
    (filtered (value 10 ∷ nothing ∷ nothing ∷ nothing ∷ []))
    -- over 10 alone no calls lead there: it takes a filter put together by hand, Within over a fresh scan
    ∷ own (keeps_at_most5 (call (Seek (pos 6)) ∷ call (Seek (pos 11)) ∷ again ∷ call Next ∷ [])) (filtered (nothing ∷ nothing ∷ nothing ∷ value 10 ∷ []))
    ∷ own (keeps_at_most5 (call (Seek (pos 11)) ∷ again ∷ call Next ∷ [])) (filtered (nothing ∷ nothing ∷ nothing ∷ []))
    ∷ []
