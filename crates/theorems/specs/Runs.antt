-- More words for runs of calls: lists and walks, ties, runs on a scan, and which runs are accepted. Assumes nothing.
use Rattle.std.specs.Prelude.{ℕ, zero, suc, ◌≡◌, Bool, true, false, cond, not, ◌&&◌, ◌||◌, List, [], ◌∷◌, map, ltb, length, ℤ}
use Rattle.std.proofs.Math.Option.{Option, some, none}
use Rattle.std.specs.Int.Signed.{lt_z}
use Rattle.ranges.specs.Ranges.{every}
use Rattle.meaning.specs.Refusals.{Said, Gives, Number}
use Rattle.meaning.specs.Sequence.{Sequence, Source, rises, elements_in}
use Rattle.loftsplice.specs.declared.scan.Move.TheVariants.{Next, Seek}
use Rattle.loftsplice.specs.declared.scan.Move.{Move}
use Rattle.loftsplice.specs.declared.scan.Scan.{Scan}
use Rattle.bounds.specs.declared.Bound.{Bound}
use Rattle.bounds.specs.declared.Mode.{Mode}
use Rattle.bounds.specs.declared.Mode.TheVariants.{InclusiveWins, ExclusiveWins}
use Rattle.filter_interval.specs.declared.Filter.{Filter}
use Rattle.loftsplice.specs.Scan.{standing as stands_in, bad_scan, Go, says_all, left_by}
use Rattle.loftsplice.specs.Running.{Run}
use Rattle.bounds.specs.Bounds.{meets_lower, meets_upper}
use Rattle.filter_interval.specs.Filter.{too_many, Call, call_of, all_readable}
use Rattle.loftsplice.specs.Listing.{those}
use Rattle.theorems.specs.Exact.{accepted, sound_source}
use Rattle.theorems.specs.Demand3.{all_lower, all_upper, meets_all, both_ways}

-- ---- none stays, and next alone

-- the answer is none
abbrev pub is_none : Said (Option ℤ) → Bool
is_none (Gives none) = true
is_none (Gives (some v)) = false
is_none (Number n) = false

-- "From then on all answer none."
unfoldable pub none_stays : List (Said (Option ℤ)) → Bool
none_stays [] = true
none_stays (a ∷ rest) = cond (is_none a) (every is_none rest) (none_stays rest)

-- "Next alone"
abbrev pub is_next : Move → Bool
is_next Next = true
is_next (Seek x) = false

-- "every such element once, in order": the elements of the window that meet every bound
abbrev pub such_elements : Sequence → ℕ → ℕ → List Bound → List Bound → Call → List ℤ
such_elements q start end lows ups k = those (meets_all (all_lower lows k) (all_upper ups k)) (elements_in q start end)

-- n answers that list xs: its elements, then none
unfoldable pub listing : ℕ → List ℤ → List (Said (Option ℤ))
listing zero xs = []
listing (suc n) [] = Gives none ∷ listing n []
listing (suc n) (x ∷ xs) = Gives (some x) ∷ listing n xs

-- ---- the expected answers without an index: a walk through the list of such elements

-- a list from its first element on that is not below x
unfoldable pub not_below : ℤ → List ℤ → List ℤ
not_below x [] = []
not_below x (y ∷ ys) = cond (lt_z y x) (not_below x ys) (y ∷ ys)

-- xs: what a next may still give; ys: what a seek may still give, which is the last one given and xs
abbrev pub ahead : List ℤ → List ℤ → Move → List ℤ
ahead xs ys Next = xs
ahead xs ys (Seek x) = not_below x ys

-- the first of a list, or none; and the others
abbrev pub first_of : List ℤ → Said (Option ℤ)
first_of [] = Gives none
first_of (z ∷ zs) = Gives (some z)

abbrev pub rest_of : List ℤ → List ℤ
rest_of [] = []
rest_of (z ∷ zs) = zs

-- each call gives the first of what is ahead of it; what is left is ahead of the next call
unfoldable pub walk : List ℤ → List ℤ → List Move → List (Said (Option ℤ))
walk xs ys [] = []
walk xs ys (m ∷ ms) = let zs = ahead xs ys m in first_of zs ∷ walk (rest_of zs) zs ms

-- ---- folded bounds, and a tie

-- a value that is let through though an upper bound is not met: "the least is the inclusive one although the comment asks that all bounds be met"; where the
-- exclusive one wins there is none
abbrev pub spared : Mode → List Bound → ℤ → Bool
spared InclusiveWins ups v = both_ways ups v
spared ExclusiveWins ups v = false

-- what a filter lets through, with a tie or without
unfoldable pub let_through : Mode → List Bound → List Bound → ℤ → Bool
let_through mode lows ups v = every (meets_lower v) lows && (every (meets_upper v) ups || spared mode ups v)

-- ---- runs on a scan

-- next and seek alone, one after the other
abbrev pub scan_answers : Source → Scan → List Move → List (Said (Option ℤ))
scan_answers p s ms = says_all p s (map Go ms)

-- calls one after the other answer the values of a run, and after them none, and leave its scan
abbrev pub AsCalls : Source → List Move → Scan → Run → Type 0
AsCalls p ms s r = (scan_answers p s ms ≡ listing (length ms) r.values) × (left_by p s (map Go ms) ≡ r.scan)

-- what a run answers each of its targets: a value, or none
abbrev pub answers_in : List ℤ → Run → List (Said (Option ℤ))
answers_in targets r = listing (length targets) r.values

-- with no bounds every element meets them
abbrev pub anything : ℤ → Bool
anything v = true

-- where a scan stands: fresh at the window's start, ended at its end
abbrev pub standing : Scan → ℕ
standing s = stands_in s s.state

-- ---- which calls are accepted

-- next or seek on a scan: none of 1, 2, 3 and 6, and for a seek 7, is to be given
unfoldable pub allowed_scan : Source → Move → Scan → Bool
allowed_scan p m s = sound_source p && not (bad_scan p.sequence s) && (is_next m || rises p.sequence s.start s.end)

-- "a window that strictly rises", and that ends within a sound column
unfoldable pub rising_window : Source → ℕ → ℕ → Bool
rising_window p start end = sound_source p && not (ltb p.sequence.size end) && rises p.sequence start end

-- a run of a first call k and calls ks after it, on a new filter and a fresh scan: such a window, no call that hands over too many bounds or inputs,
-- and a first call whose variable bounds name inputs that have a value
unfoldable pub acceptable : Source → ℕ → ℕ → Call → List Call → Bool
acceptable p start end k ks =
    rising_window p start end && every (λ k. not (too_many k)) (k ∷ ks) && all_readable k

-- of any run, the calls that are accepted, and of its answers, those of accepted calls
unfoldable pub kept : Source → Filter → List Call → List Call
kept p f [] = []
kept p f (k ∷ ks) = cond (accepted (call_of p k f).said) (k ∷ kept p (call_of p k f).filter ks) (kept p (call_of p k f).filter ks)

unfoldable pub only : List (Said (Option ℤ)) → List (Said (Option ℤ))
only [] = []
only (a ∷ rest) = cond (accepted a) (a ∷ only rest) (only rest)
