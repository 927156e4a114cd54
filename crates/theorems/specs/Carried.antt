-- Document 02, request 8, "A scan that knows its value": the words, and its rows of the table. Assumes nothing.
use Rattle.std.specs.Prelude.{ℕ, Bool, false, not, ◌||◌, List, [], ◌∷◌, ltb, ℤ, pos}
use Rattle.std.proofs.Math.Option.{Option, some, none}
use Rattle.meaning.specs.declared.Refusal.TheVariants.{Scan as OffScan}
use Rattle.meaning.specs.Refusals.{Said, Gives, Number, also, judged}
use Rattle.meaning.specs.Sequence.{Sequence, Source, on_source, same_z}
use Rattle.meaning.specs.Column.{Column, source_of}
use Rattle.bounds.specs.declared.Mode.TheVariants.{InclusiveWins}
use Rattle.bounds.specs.declared.Limit.TheVariants.{Free}
use Rattle.loftsplice.specs.declared.scan.State.{State}
use Rattle.loftsplice.specs.declared.scan.State.TheVariants.{Fresh, At, Ended}
use Rattle.loftsplice.specs.declared.scan.Carried.{Carried}
use Rattle.loftsplice.specs.declared.scan.Carried.TheVariants.{Value as Held, None as Nothing}
use Rattle.loftsplice.specs.declared.scan.Scan.{Scan}
use Rattle.loftsplice.specs.declared.scan.Move.TheVariants.{Next}
use Rattle.loftsplice.specs.Scan.{element_in, outside, carried_by, Narrow, Reset}
use Rattle.filter_interval.specs.declared.FilterState.{FilterState}
use Rattle.filter_interval.specs.declared.FilterState.TheVariants.{Before, Within, After}
use Rattle.filter_interval.specs.declared.Filter.{Filter}
use Rattle.theorems.specs.Table.{Row, own, Seen, scanned, looked, filtered, column, run, next, seek, acts, looks, look, call, sifts, value, values, nothing, index}

-- ---- document 01's `current`, which was handed the column

-- its 6: "the scan's window end is above length, or its index is outside its window"
abbrev pub off_window : Sequence → Scan → Bool
off_window q s = ltb q.size s.end || outside s s.state

-- "Every scan call takes the column and applies 1, 2, 3 and 6"; "element .. when at an index, else none"
unfoldable pub current_with : Source → Scan → Said (Option ℤ)
current_with p s = judged Number (also OffScan (off_window p.sequence s) (on_source p)) (Gives (element_in p.sequence s.state))

-- the filter's: "the scan's current when Within, else none"
abbrev pub element_within : Sequence → Filter → FilterState → Option ℤ
element_within q f Before = none
element_within q f (Within up) = element_in q f.scan.state
element_within q f After = none

unfoldable pub filter_current_with : Source → Filter → Said (Option ℤ)
filter_current_with p f = judged Number (also OffScan (off_window p.sequence f.scan) (on_source p)) (Gives (element_within p.sequence f f.state))

-- ---- the third of the request's conditions, which `current` can't see

-- "the carried value is not the column's element at that index"
abbrev pub differs : Sequence → State → Option ℤ → Bool
differs q (At i) (some v) = not (same_z v (q.at i))
differs q (At i) none = false
differs q Fresh v = false
differs q Ended v = false

abbrev pub wrong_value : Sequence → Scan → Bool
wrong_value q s = differs q s.state (carried_by s.value)

-- ---- rows of the table, over the smallest column that has an element: 10 alone

abbrev pub ten : Column
ten = column (run 10 (pos 0) 1 ∷ [])

-- a scan of the window 0..end, by hand
abbrev pub by_hand : ℕ → State → Carried → Scan
by_hand end t v = record { start = 0; end = end; state = t; value = v }

-- a value that is not below 0
abbrev pub held : ℕ → Carried
held n = Held (pos n)

-- next, seek, narrow and reset, one after the other; a scan that 6 refuses is handed on as it is, so each is refused
abbrev pub all_calls : Scan → Seen
all_calls s = acts ten s (next ∷ seek 10 ∷ Narrow 0 1 ∷ Reset ∷ [])

abbrev pub all_six : Seen
all_six = scanned (Number 6 ∷ Number 6 ∷ Number 6 ∷ Number 6 ∷ []) (Number 6)

-- `current` after these calls
abbrev pub current_then : Scan → Seen
current_then s = looks ten s (next ∷ seek 10 ∷ Narrow 0 1 ∷ Reset ∷ [])

-- a filter without bounds over such a scan, in a state: current, next, current
abbrev pub filter_by_hand : Scan → FilterState → Seen
filter_by_hand s t = filtered (sifts (source_of ten) (look ∷ call Next ∷ look ∷ []) (record { scan = s; mode = InclusiveWins; lower = Free; upper = Free; state = t }))

abbrev pub six : Said (Option ℤ)
six = Number 6

abbrev pub carried_table : List Row
carried_table =
    -- a sound scan, fresh, at its index, and ended: its element or none
    own (looks ten (by_hand 1 Fresh Nothing) []) (looked nothing)
    ∷ own (looks ten (by_hand 1 Fresh Nothing) (next ∷ [])) (looked (value 10))
    ∷ own (looks ten (by_hand 1 Fresh Nothing) (next ∷ next ∷ [])) (looked nothing)
    ∷ own (acts ten (by_hand 1 (At 0) (held 10)) (seek 10 ∷ [])) (scanned (values (10 ∷ [])) (index 0))
    -- "a value is there when fresh or ended": all calls refuse it, and `current` too; no call repairs it
    ∷ own (all_calls (by_hand 1 Fresh (held 10))) all_six
    ∷ own (current_then (by_hand 1 Fresh (held 10))) (looked six)
    ∷ own (all_calls (by_hand 1 Ended (held 10))) all_six
    ∷ own (current_then (by_hand 1 Ended (held 10))) (looked six)
    -- "or missing at an index"
    ∷ own (all_calls (by_hand 1 (At 0) Nothing)) all_six
    ∷ own (current_then (by_hand 1 (At 0) Nothing)) (looked six)
    -- "where the carried value is not the column's element at that index": all other calls refuse it, `current` answers it
    ∷ own (all_calls (by_hand 1 (At 0) (held 11))) all_six
    ∷ own (current_then (by_hand 1 (At 0) (held 11))) (looked (value 11))
    -- a window that ends above the length, and an index outside its window: `current` answers what is carried
    ∷ own (all_calls (by_hand 2 (At 0) (held 10))) all_six
    ∷ own (current_then (by_hand 2 (At 0) (held 10))) (looked (value 10))
    ∷ own (all_calls (by_hand 1 (At 1) (held 10))) all_six
    ∷ own (current_then (by_hand 1 (At 1) (held 10))) (looked (value 10))
    -- the filter's: what is carried when Within, else none; 6 in any filter state
    ∷ own (filter_by_hand (by_hand 1 (At 0) (held 11)) (Within Free)) (filtered (value 11 ∷ six ∷ value 11 ∷ []))
    ∷ own (filter_by_hand (by_hand 1 (At 0) (held 11)) Before) (filtered (nothing ∷ six ∷ nothing ∷ []))
    ∷ own (filter_by_hand (by_hand 1 (At 0) (held 11)) After) (filtered (nothing ∷ six ∷ nothing ∷ []))
    ∷ own (filter_by_hand (by_hand 1 Fresh (held 10)) (Within Free)) (filtered (six ∷ six ∷ six ∷ []))
    ∷ own (filter_by_hand (by_hand 1 Fresh (held 10)) Before) (filtered (six ∷ six ∷ six ∷ []))
    ∷ own (filter_by_hand (by_hand 1 Fresh (held 10)) After) (filtered (six ∷ six ∷ six ∷ []))
    ∷ own (filter_by_hand (by_hand 1 Fresh Nothing) (Within Free)) (filtered (nothing ∷ value 10 ∷ value 10 ∷ []))
    ∷ []
