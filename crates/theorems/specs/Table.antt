-- Document 01, "Examples with numbers": P1 to P12 as a table, and rows of our own. Assumes nothing.
use Rattle.std.specs.Prelude.{ℕ, zero, suc, ◌+◌, List, [], ◌∷◌, ◌++◌, map, length, ℤ, pos, negsuc}
use Rattle.std.proofs.Math.Option.{Option, some, none}
use Rattle.meaning.specs.Refusals.{Word, fine, Said, Gives, Number}
use Rattle.meaning.specs.Sequence.{Source}
use Rattle.meaning.specs.Column.{Column, column_of, size_of, sequence_of, source_of}
use Rattle.meaning.specs.declared.Place.{Place}
use Rattle.meaning.specs.Calls.{diff_step_of, check_of, place_of, get_of}
use Rattle.loftsplice.specs.Listing.{Batch, list_of, out_after, counts_after}
use Rattle.loftsplice.specs.declared.scan.Move.TheVariants.{Next, Seek}
use Rattle.loftsplice.specs.declared.scan.Move.{Move}
use Rattle.loftsplice.specs.declared.scan.State.TheVariants.{At}
use Rattle.loftsplice.specs.declared.scan.Scan.{Scan}
use Rattle.meaning.specs.declared.Answer.{Answer}
use Rattle.meaning.specs.declared.Answer.TheVariants.{Value, None}
use Rattle.bounds.specs.declared.BoundaryType.{BoundaryType}
use Rattle.bounds.specs.declared.BoundaryType.TheVariants.{Inclusive, Exclusive}
use Rattle.bounds.specs.declared.Bound.{Bound}
use Rattle.bounds.specs.declared.Mode.{Mode}
use Rattle.bounds.specs.declared.Mode.TheVariants.{InclusiveWins, ExclusiveWins}
use Rattle.bounds.specs.declared.Bounds.{Bounds}
use Rattle.bounds.specs.declared.Variable.{Variable}
use Rattle.bounds.specs.declared.Variables.{Variables}
use Rattle.bounds.specs.declared.Inputs.{Inputs}
use Rattle.bounds.specs.declared.Limit.TheVariants.{Free}
use Rattle.filter_interval.specs.declared.FilterState.{FilterState}
use Rattle.filter_interval.specs.declared.FilterState.TheVariants.{After}
use Rattle.filter_interval.specs.declared.Filter.{Filter}
use Rattle.loftsplice.specs.Scan.{fresh, put, new_of, current_of, pos_of, Call as ScanCall, Go, Narrow, Reset, says_all, left_by}
use Rattle.filter_interval.specs.Filter.{Call, Sifting, fit_of, call_of, filter_current_of, filter_reset_of}

-- ---- columns, from "runs (start, step, length)"

-- a run's start, step and length
pub record Run : Type 0 where
  pub start : ℤ
  pub step : ℤ
  pub count : ℕ

abbrev pub run : ℕ → ℤ → ℕ → Run
run start step count = record { start = pos start; step = step; count = count }

-- run ends are "counted from the column's beginning": running sums of the lengths
unfoldable pub ends_from : ℕ → List Run → List ℕ
ends_from n [] = []
ends_from n (r ∷ rs) = (n + r.count) ∷ ends_from (n + r.count) rs

-- the column of these runs
abbrev pub column : List Run → Column
column rs = record { starts = map (λ (r : Run). r.start) rs; ends = ends_from 0 rs; steps = map (λ (r : Run). r.step) rs }

-- "Column C: runs (10,5,4) (30,0,1) (31,-3,1) (40,100,3)"
abbrev pub C : Column
C = column (run 10 (pos 5) 4 ∷ run 30 (pos 0) 1 ∷ run 31 (negsuc 2) 1 ∷ run 40 (pos 100) 3 ∷ [])

-- "Column D: (10,-5,2) (6,1,3)"
abbrev pub D : Column
D = column (run 10 (negsuc 4) 2 ∷ run 6 (pos 1) 3 ∷ [])

-- ---- what is done, and what is seen

-- what is seen of a call, and of calls on one scan or filter
pub data Seen : Type 0 where
  stepped : Option ℤ → Seen
  checked : Said Word → Seen
  element : Said ℤ → Seen
  placed : Said Place → Seen
  -- what a scan said, call by call, and its index at the end
  scanned : List (Said (Option ℤ)) → Said (Option ℕ) → Seen
  -- what a scan's current says
  looked : Said (Option ℤ) → Seen
  -- what a filter said, call by call
  filtered : List (Said (Option ℤ)) → Seen
  -- what a listing answered, and what it left in the output and in the counts
  listed : Said ℕ → List ℤ → List ℕ → Seen

-- calls on a scan, put in numbers that are not below 0
abbrev pub next : ScanCall
next = Go Next

abbrev pub seek : ℕ → ScanCall
seek x = Go (Seek (pos x))

-- what calls on a scan of c say, and its index at the end; and its current at the end
abbrev pub acts : Column → Scan → List ScanCall → Seen
acts c s ks = scanned (says_all (source_of c) s ks) (pos_of (source_of c) (left_by (source_of c) s ks))

abbrev pub looks : Column → Scan → List ScanCall → Seen
looks c s ks = looked (current_of (left_by (source_of c) s ks))

-- on a scan that is at index i
abbrev pub scan_at : Column → ℕ → List ScanCall → Seen
scan_at c i ks = acts c (put (sequence_of c) (fresh 0 (size_of c)) (At i)) ks

-- on a new scan
abbrev pub on_new : Said Scan → (Scan → Seen) → Seen
on_new (Gives s) see = see s
on_new (Number n) see = scanned (Number n ∷ []) (Number n)

abbrev pub scan : Column → List ScanCall → Seen
scan c ks = on_new (new_of (source_of c)) (λ s. acts c s ks)

abbrev pub current : Column → List ScanCall → Seen
current c ks = on_new (new_of (source_of c)) (λ s. looks c s ks)

-- a call on a filter: next or seek; reset, which answers nothing; current
pub data FilterAct : Type 0 where
  ask : Call → FilterAct
  again : FilterAct
  look : FilterAct

abbrev pub filter_act : Source → FilterAct → Filter → Sifting
filter_act p (ask k) f = call_of p k f
filter_act p again f = record { filter = filter_reset_of f; said = Gives none }
filter_act p look f = record { filter = f; said = filter_current_of f }

unfoldable pub sifts : Source → List FilterAct → Filter → List (Said (Option ℤ))
sifts p [] f = []
sifts p (a ∷ more) f = let m = filter_act p a f in m.said ∷ sifts p more m.filter

-- on a new filter of a fresh scan, in a mode; and in the Rust's, where of equal upper values the inclusive one wins
abbrev pub on_fitted : Source → Said Filter → List FilterAct → Seen
on_fitted p (Gives f) as' = filtered (sifts p as' f)
on_fitted p (Number n) as' = filtered (Number n ∷ [])

abbrev pub filter_by : Mode → Column → Bounds → Bounds → List FilterAct → Seen
filter_by mode c lows ups as' = on_fitted (source_of c) (fit_of (fresh 0 (size_of c)) mode lows ups) as'

abbrev pub filter : Column → Bounds → Bounds → List FilterAct → Seen
filter = filter_by InclusiveWins

-- on a filter without bounds, in a state
abbrev pub filter_in : Column → FilterState → List FilterAct → Seen
filter_in c t as' = filtered (sifts (source_of c) as' (record { scan = fresh 0 (size_of c); mode = InclusiveWins; lower = Free; upper = Free; state = t }))

-- a listing of windows, given by their starts and ends, in a mode; and in the Rust's
abbrev pub list_by : Mode → Column → List ℕ → List ℕ → Bounds → Bounds → List ℤ → List ℕ → Seen
list_by mode c ss es lows ups out counts =
    let b : Batch = record { source = source_of c; starts = ss; ends = es; mode = mode; lower = lows; upper = ups; out = out; counts = counts } in
    listed (list_of b) (out_after b) (counts_after b)

abbrev pub list : Column → List ℕ → List ℕ → Bounds → Bounds → List ℤ → List ℕ → Seen
list = list_by InclusiveWins

-- lists by value: all of a list's items count
abbrev pub these : List Bound → Bounds
these bs = record { items = bs; count = length bs }

abbrev pub named : List Variable → Variables
named vs = record { items = vs; count = length vs }

abbrev pub reads : List Answer → Inputs
reads as' = record { items = map (λ a. record { answer = a }) as'; count = length as' }

-- a bound with its value, and a variable bound with its input
abbrev pub bound : BoundaryType → ℕ → Bound
bound b x = record { boundary = b; value = pos x }

abbrev pub input : BoundaryType → ℕ → Variable
input b i = record { boundary = b; input = i }

-- a call with no variable bounds
abbrev pub call : Move → FilterAct
call m = ask (record { move = m; lower = named []; upper = named []; inputs = reads [] })

-- a call that is bounded by input 0, exclusive, below, and by input 1, inclusive, above
abbrev pub between : Answer → Answer → FilterAct
between low up = ask (record { move = Next; lower = named (input Exclusive 0 ∷ []); upper = named (input Inclusive 1 ∷ []); inputs = reads (low ∷ up ∷ []) })

-- a call that is bounded by input 0, inclusive, above
abbrev pub at_most : ℕ → FilterAct
at_most x = ask (record { move = Next; lower = named []; upper = named (input Inclusive 0 ∷ []); inputs = reads (Value (pos x) ∷ []) })

-- a call whose upper bound names input 1 of one
abbrev pub missing : FilterAct
missing = ask (record { move = Next; lower = named []; upper = named (input Inclusive 1 ∷ []); inputs = reads (Value (pos 1) ∷ []) })

-- a call whose lists have these counts
abbrev pub counted : ℕ → ℕ → ℕ → FilterAct
counted l u n = ask (record { move = Next; lower = record { items = []; count = l }; upper = record { items = []; count = u }; inputs = record { items = []; count = n } })

-- the same call n times
unfoldable pub times : ℕ → FilterAct → List FilterAct
times zero k = []
times (suc n) k = k ∷ times n k

-- ---- what is said

abbrev pub value : ℕ → Said (Option ℤ)
value n = Gives (some (pos n))

abbrev pub nothing : Said (Option ℤ)
nothing = Gives none

abbrev pub values : List ℕ → List (Said (Option ℤ))
values ns = map value ns

abbrev pub index : ℕ → Said (Option ℕ)
index i = Gives (some i)

abbrev pub no_index : Said (Option ℕ)
no_index = Gives none

-- ---- the table: document 01's number, what is done, what is seen

pub record Row : Type 0 where
  pub number : Option ℕ
  pub got : Seen
  pub want : Seen

abbrev pub P : ℕ → Seen → Seen → Row
P n got want = record { number = some n; got = got; want = want }

-- a row that document 01 does not have
abbrev pub own : Seen → Seen → Row
own got want = record { number = none; got = got; want = want }

abbrev pub table : List Row
table =
    -- "C at 3 is 25, at 8 is 240; at 9 refused 4."
    P 1 (element (get_of (source_of C) 3)) (element (Gives (pos 25)))
    ∷ P 1 (element (get_of (source_of C) 8)) (element (Gives (pos 240)))
    ∷ P 1 (element (get_of (source_of C) 9)) (element (Number 4))
    -- "place of 4 in C is (1,0), of 9 is (4,0); of 10 refused 4.": "P2 gains the numbers 1 for index 4 and 0 for index 9."
    ∷ P 2 (placed (place_of C 4)) (placed (Gives (record { run = 1; offset = 0; follows = 1 })))
    ∷ P 2 (placed (place_of C 9)) (placed (Gives (record { run = 4; offset = 0; follows = 0 })))
    ∷ P 2 (placed (place_of C 10)) (placed (Number 4))
    -- "fresh on C, seek 16: 20, index 2."
    ∷ P 3 (scan C (seek 16 ∷ [])) (scanned (values (20 ∷ [])) (index 2))
    -- "fresh on C, seek 26: 30, index 4."
    ∷ P 4 (scan C (seek 26 ∷ [])) (scanned (values (30 ∷ [])) (index 4))
    -- "fresh on C, seek 241: none; then next: none."
    ∷ P 5 (scan C (seek 241 ∷ next ∷ [])) (scanned (nothing ∷ nothing ∷ []) no_index)
    -- "C at index 5, seek 12: 31, index 5."
    ∷ P 6 (scan_at C 5 (seek 12 ∷ [])) (scanned (values (31 ∷ [])) (index 5))
    -- "C, window 3..8: next is 25; then seek 200: none."
    ∷ P 7 (scan C (Narrow 3 8 ∷ next ∷ seek 200 ∷ [])) (scanned (nothing ∷ value 25 ∷ nothing ∷ []) no_index)
    -- "C, window 3..3 and 8..2: next none; 0..10 refused 5."
    ∷ P 8 (scan C (Narrow 3 3 ∷ next ∷ [])) (scanned (nothing ∷ nothing ∷ []) no_index)
    ∷ P 8 (scan C (Narrow 8 2 ∷ next ∷ [])) (scanned (nothing ∷ nothing ∷ []) no_index)
    ∷ P 8 (scan C (Narrow 0 10 ∷ [])) (scanned (Number 5 ∷ []) no_index)
    -- "D, whole, seek 6: refused 7; window 1..5, seek 6: 6, index 2."
    ∷ P 9 (scan D (seek 6 ∷ [])) (scanned (Number 7 ∷ []) no_index)
    ∷ P 9 (scan D (Narrow 1 5 ∷ seek 6 ∷ [])) (scanned (nothing ∷ value 6 ∷ []) (index 2))
    -- "C, above 10 and at most 40: 15 20 25 30 31 40."
    ∷ P 10 (filter C (these (bound Exclusive 10 ∷ [])) (these (bound Inclusive 40 ∷ [])) (times 7 (call Next)))
    (filtered (values (15 ∷ 20 ∷ 25 ∷ 30 ∷ 31 ∷ 40 ∷ []) ++ nothing ∷ []))
    -- "C, at most 15 and below 15: 10 15. With no bounds, first call seek 100: 10."
    ∷ P 11 (filter C (these []) (these (bound Inclusive 15 ∷ bound Exclusive 15 ∷ [])) (times 3 (call Next))) (filtered (values (10 ∷ 15 ∷ []) ++ nothing ∷ []))
    ∷ P 11 (filter C (these []) (these []) (call (Seek (pos 100)) ∷ [])) (filtered (values (10 ∷ [])))
    -- "one run (9223372036854775800, 1): length 8 is valid, length 9 refused 3."
    ∷ P 12 (checked (check_of (source_of (column (run 9223372036854775800 (pos 1) 8 ∷ []))))) (checked (Gives fine))
    ∷ P 12 (checked (check_of (source_of (column (run 9223372036854775800 (pos 1) 9 ∷ []))))) (checked (Number 3))
    -- P11 where the exclusive one wins: 10
    ∷ own (filter_by ExclusiveWins C (these []) (these (bound Inclusive 15 ∷ bound Exclusive 15 ∷ [])) (times 2 (call Next))) (filtered (values (10 ∷ []) ++ nothing ∷ []))
    -- the same with "at most 20" as a variable bound beside "below 20", and after reset, where the scan stands on 20
    ∷ own (filter_by ExclusiveWins C (these (bound Inclusive 10 ∷ [])) (these (bound Exclusive 20 ∷ [])) (at_most 20 ∷ times 2 (call Next) ++ again ∷ at_most 20 ∷ []))
    (filtered (values (10 ∷ 15 ∷ []) ++ nothing ∷ nothing ∷ nothing ∷ []))
    ∷ own (filter C (these (bound Inclusive 10 ∷ [])) (these (bound Exclusive 20 ∷ [])) (at_most 20 ∷ times 3 (call Next) ++ again ∷ at_most 30 ∷ []))
    (filtered (values (10 ∷ 15 ∷ 20 ∷ []) ++ nothing ∷ nothing ∷ nothing ∷ []))
    -- lower bounds are folded alike in both modes: from 10 on and above 10
    ∷ own (filter_by ExclusiveWins C (these (bound Inclusive 10 ∷ bound Exclusive 10 ∷ [])) (these []) (call Next ∷ [])) (filtered (values (15 ∷ [])))
    ∷ own (filter C (these (bound Inclusive 10 ∷ bound Exclusive 10 ∷ [])) (these []) (call Next ∷ [])) (filtered (values (15 ∷ [])))
    -- C below 40: an exclusive upper bound
    ∷ own (filter C (these []) (these (bound Exclusive 40 ∷ [])) (times 7 (call Next))) (filtered (values (10 ∷ 15 ∷ 20 ∷ 25 ∷ 30 ∷ 31 ∷ []) ++ nothing ∷ []))
    -- C above input 0 and at most input 1, which are 15 and 140 at the first call; what later calls hand over is not read
    ∷ own (filter C (these []) (these []) (between (Value (pos 15)) (Value (pos 140)) ∷ times 3 (between None None) ++ call (Seek (pos 100)) ∷ times 2 (call Next)))
    (filtered (values (20 ∷ 25 ∷ 30 ∷ 31 ∷ 140 ∷ []) ++ nothing ∷ nothing ∷ []))
    -- C from 12 on, first call seek 26: the bound is raised to the target; a target of 15 is not greater than "above 15", nor is 11 than "from 12 on"
    ∷ own (filter C (these (bound Inclusive 12 ∷ [])) (these []) (call (Seek (pos 26)) ∷ [])) (filtered (values (30 ∷ [])))
    ∷ own (filter C (these (bound Exclusive 15 ∷ [])) (these []) (call (Seek (pos 15)) ∷ [])) (filtered (values (20 ∷ [])))
    ∷ own (filter C (these (bound Inclusive 12 ∷ [])) (these []) (call (Seek (pos 11)) ∷ [])) (filtered (values (15 ∷ [])))
    -- a variable bound that names an input that has no value, and one that isn't there; Before only
    ∷ own (filter C (these []) (these []) (between (Value (pos 15)) None ∷ call Next ∷ between None None ∷ [])) (filtered (Number 9 ∷ values (10 ∷ 15 ∷ [])))
    ∷ own (filter C (these []) (these []) (missing ∷ [])) (filtered (Number 9 ∷ []))
    -- 17 bounds, when a filter is made and when it is called; 9 inputs
    ∷ own (filter C (record { items = []; count = 17 }) (these []) []) (filtered (Number 8 ∷ []))
    ∷ own (filter C (these []) (these []) (counted 0 17 0 ∷ counted 16 16 8 ∷ counted 0 0 9 ∷ [])) (filtered (Number 8 ∷ value 10 ∷ Number 8 ∷ []))
    -- an ended scan whose window doesn't rise: next is none, seek is refused; the filter's next too
    ∷ own (scan D (Narrow 0 2 ∷ next ∷ next ∷ next ∷ next ∷ seek 6 ∷ []))
    (scanned (nothing ∷ value 10 ∷ value 5 ∷ nothing ∷ nothing ∷ Number 7 ∷ []) no_index)
    ∷ own (filter D (these []) (these []) (call Next ∷ [])) (filtered (Number 7 ∷ []))
    -- a filter that is After: 7 and 8 are given all the same, 9 is not
    ∷ own (filter_in D After (call Next ∷ [])) (filtered (Number 7 ∷ []))
    ∷ own (filter_in C After (counted 0 17 0 ∷ missing ∷ [])) (filtered (Number 8 ∷ nothing ∷ []))
    -- a scan whose index is outside its window, and one whose window ends above the length
    ∷ own (scan_at C 9 (next ∷ [])) (scanned (Number 6 ∷ []) (Number 6))
    ∷ own (acts C (fresh 0 10) (next ∷ [])) (scanned (Number 6 ∷ []) (Number 6))
    -- "The empty column is valid."
    ∷ own (checked (check_of (source_of (column [])))) (checked (Gives fine))
    -- arrays of unequal length; an end that is not above the one before; one over 4,294,967,295; what is refused first
    ∷ own (checked (check_of (source_of (column_of (pos 1 ∷ []) (1 ∷ []) [])))) (checked (Number 1))
    ∷ own (checked (check_of (source_of (column (run 1 (pos 1) 3 ∷ run 9 (pos 1) 0 ∷ []))))) (checked (Number 2))
    ∷ own (checked (check_of (source_of (column (run 1 (pos 0) 4294967295 ∷ []))))) (checked (Gives fine))
    ∷ own (checked (check_of (source_of (column (run 1 (pos 0) 4294967296 ∷ []))))) (checked (Number 2))
    ∷ own (checked (check_of (source_of (column (run 9223372036854775800 (pos 1) 9 ∷ run 9 (pos 1) 0 ∷ []))))) (checked (Number 2))
    -- a step exists exactly in -32,768..32,767
    ∷ own (stepped (diff_step_of (pos 1) (pos 32768))) (stepped (some (pos 32767)))
    ∷ own (stepped (diff_step_of (pos 1) (pos 32769))) (stepped none)
    ∷ own (stepped (diff_step_of (pos 32768) (pos 0))) (stepped (some (negsuc 32767)))
    ∷ own (stepped (diff_step_of (pos 32769) (pos 0))) (stepped none)
    -- narrow replaces the window, and may widen it; reset keeps it
    ∷ own (scan C (Narrow 3 5 ∷ next ∷ Narrow 0 9 ∷ next ∷ [])) (scanned (nothing ∷ value 25 ∷ nothing ∷ value 10 ∷ []) (index 0))
    ∷ own (current C (Narrow 3 5 ∷ next ∷ [])) (looked (value 25))
    ∷ own (current C (Narrow 3 5 ∷ next ∷ Narrow 0 9 ∷ [])) (looked nothing)
    ∷ own (scan C (Narrow 3 5 ∷ next ∷ next ∷ next ∷ Reset ∷ next ∷ []))
    (scanned (nothing ∷ value 25 ∷ value 30 ∷ nothing ∷ nothing ∷ value 25 ∷ []) (index 3))
    -- a filter's reset doesn't touch the scan: without a lower bound the element that it stood on is passed, with one it may be given again
    ∷ own (filter C (these []) (these []) (look ∷ call Next ∷ look ∷ again ∷ look ∷ call Next ∷ []))
    (filtered (nothing ∷ value 10 ∷ value 10 ∷ nothing ∷ nothing ∷ value 15 ∷ []))
    ∷ own (filter C (these (bound Inclusive 1 ∷ [])) (these []) (call Next ∷ again ∷ call Next ∷ [])) (filtered (value 10 ∷ nothing ∷ value 10 ∷ []))
    -- C above 25 and at most 140, windows 0..9, 3..8, 3..8 again and 8..2: one place of the output and one of the counts are left over
    ∷ own (list C (0 ∷ 3 ∷ 3 ∷ 8 ∷ []) (9 ∷ 8 ∷ 8 ∷ 2 ∷ []) (these (bound Exclusive 25 ∷ [])) (these (bound Inclusive 140 ∷ [])) (map pos (1 ∷ 2 ∷ 3 ∷ 4 ∷ 5 ∷ 6 ∷ 7 ∷ 8 ∷ 9 ∷ 10 ∷ 11 ∷ 12 ∷ 13 ∷ [])) (1 ∷ 2 ∷ 3 ∷ 4 ∷ 5 ∷ []))
    (listed (Gives 12) (map pos (30 ∷ 31 ∷ 40 ∷ 140 ∷ 30 ∷ 31 ∷ 40 ∷ 140 ∷ 30 ∷ 31 ∷ 40 ∷ 140 ∷ 13 ∷ [])) (4 ∷ 4 ∷ 4 ∷ 0 ∷ 5 ∷ []))
    -- D, window 1..5: four values, with room for four and for three; window 0..2, which doesn't rise, after it
    ∷ own (list D (1 ∷ []) (5 ∷ []) (these []) (these []) (map pos (1 ∷ 2 ∷ 3 ∷ 4 ∷ [])) (9 ∷ [])) (listed (Gives 4) (map pos (5 ∷ 6 ∷ 7 ∷ 8 ∷ [])) (4 ∷ []))
    ∷ own (list D (1 ∷ []) (5 ∷ []) (these []) (these []) (map pos (1 ∷ 2 ∷ 3 ∷ [])) (9 ∷ [])) (listed (Number 10) (map pos (1 ∷ 2 ∷ 3 ∷ [])) (9 ∷ []))
    ∷ own (list D (1 ∷ 0 ∷ []) (5 ∷ 2 ∷ []) (these []) (these []) (map pos (1 ∷ 2 ∷ [])) (9 ∷ [])) (listed (Number 7) (map pos (1 ∷ 2 ∷ [])) (9 ∷ []))
    -- C at most 25 and below 25, in both modes
    ∷ own (list C (0 ∷ []) (9 ∷ []) (these []) (these (bound Inclusive 25 ∷ bound Exclusive 25 ∷ [])) (map pos (1 ∷ 2 ∷ 3 ∷ 4 ∷ 5 ∷ [])) (9 ∷ []))
    (listed (Gives 4) (map pos (10 ∷ 15 ∷ 20 ∷ 25 ∷ 5 ∷ [])) (4 ∷ []))
    ∷ own (list_by ExclusiveWins C (0 ∷ []) (9 ∷ []) (these []) (these (bound Inclusive 25 ∷ bound Exclusive 25 ∷ [])) (map pos (1 ∷ 2 ∷ 3 ∷ 4 ∷ 5 ∷ [])) (9 ∷ []))
    (listed (Gives 3) (map pos (10 ∷ 15 ∷ 20 ∷ 4 ∷ 5 ∷ [])) (3 ∷ []))
    ∷ []
