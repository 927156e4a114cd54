-- "The empty column is valid.": what each call says of it. Those of the record stand in crates/codec/proofs/NoRuns.antt. Assumes nothing.
use Prim.Native.Nat.{ℕ, zero, ◌-◌, ◌≤◌, ◌<◌}
use mathlib.Core.Path.{◌≡◌, refl, sym, ap, ◌∙◌}
use mathlib.Core.Bool.{true, false, not}
use mathlib.Core.List.{List, [], ◌∷◌, ◌++◌}
use mathlib.Core.Option.{none}
use native.Mathlib.Omega.{arith}
use borrow.Author.Tests.{lt-ltb, le-ltb, le-leb, eq-eqb}
use lib.Dec.{ltb}
use lib.ListN.{length, length-map}
use lib.IntN.{ℤ}
use Rattle.loftsplice.specs.declared.leading.Lead.TheVariants.{Go}
use Rattle.ranges.specs.Ranges.{all_for, first_for, every}
use Rattle.ranges.proofs.Bools.{same_after, either}
use Rattle.meaning.specs.Refusals.{fine, Gives, Number, tried}
use Rattle.meaning.specs.Sequence.{Sequence, rises, first_not_below, elements_for}
use Rattle.meaning.specs.Column.{end_before, run_of, shape_ok, ends_ok, reach_ok, sound}
use Rattle.meaning.specs.Calls.{check_of, len_of, is_empty_of, place_of, get_of}
use Rattle.loftsplice.specs.Lead.{on_past, lead_from}
use Rattle.loftsplice.specs.declared.scan.Move.TheVariants.{Next, Seek}
use Rattle.loftsplice.specs.declared.scan.Move.{Move}
use Rattle.loftsplice.specs.declared.scan.State.{State}
use Rattle.loftsplice.specs.declared.scan.State.TheVariants.{Fresh, At, Ended}
use Rattle.loftsplice.specs.declared.scan.Scan.{Scan}
use Rattle.bounds.specs.declared.Bounds.{Bounds}
use Rattle.bounds.specs.declared.Mode.{Mode}
use Rattle.bounds.specs.declared.Limit.{Limit}
use Rattle.bounds.specs.declared.Limit.TheVariants.{Free, To}
use Rattle.filter_interval.specs.declared.FilterState.{FilterState}
use Rattle.filter_interval.specs.declared.FilterState.TheVariants.{Before, Within, After}
use Rattle.filter_interval.specs.declared.Filter.{Filter}
use Rattle.loftsplice.specs.Scan.{Outcome, fresh, next_from, seek_from, element_in, index_in, outside, bad_scan, new_of, next_of, seek_of, narrow_of, reset_of, current_of, pos_of, move_scan}
use Rattle.bounds.specs.Bounds.{is_exclusive, greatest, least, bounds}
use Rattle.filter_interval.specs.Filter.{Call, raised, lower_of, upper_of, settle, step_from, too_many, unread, call_of, current_in, filter_current_of, lead_to}
use Rattle.loftsplice.specs.Listing.{Span, windows, those, values_in, values_of, counts_of, list_of}
use Rattle.theorems.specs.Exact.{sound_source}
use Rattle.theorems.specs.Empty.{empty, nowhere, spent, Barren, zeros}
use Rattle.theorems.proofs.ColumnCalls.{sound-source}
use Rattle.theorems.proofs.ScanCalls.{next-accepts, next-does, seek-accepts, seek-does, narrow-refuses-5, narrow-accepts, narrow-does, reset-accepts, reset-does, pos-accepts, pos-does}
use Rattle.theorems.proofs.FilterCalls.{call-accepts, call-does, filter-current-accepts, filter-current-does}
use Rattle.theorems.proofs.Columns.{short-rises}
use Rattle.theorems.proofs.Moves.{to_end, in_place, below_end}
use Rattle.theorems.proofs.Carried.{good-value, sound-current}
use Rattle.loftsplice.proofs.ScanCases.{carries, end-in}

-- ---- the column's calls

pub empty-sound : sound empty ≡ true
unfolding sound shape_ok ends_ok reach_ok all_for
empty-sound = refl

pub empty-check : check_of nowhere ≡ Gives fine
unfolding check_of tried shape_ok ends_ok reach_ok all_for
empty-check = refl

pub empty-len : len_of nowhere ≡ Gives 0
unfolding len_of tried shape_ok ends_ok reach_ok all_for end_before
empty-len = refl

pub empty-is-empty : is_empty_of nowhere ≡ Gives true
unfolding is_empty_of tried shape_ok ends_ok reach_ok all_for end_before
empty-is-empty = refl

-- "Index equal to length has the place (run count, 0)", and nothing follows: here (0, 0, 0), and no other index has one
pub empty-place : place_of empty 0 ≡ Gives (record { run = 0; offset = 0; follows = 0 })
unfolding place_of tried shape_ok ends_ok reach_ok all_for end_before run_of first_for
empty-place = refl

pub empty-place-above : (i : ℕ) → 0 < i → place_of empty i ≡ Number 4
unfolding place_of tried shape_ok ends_ok reach_ok all_for end_before
empty-place-above i l = rw (lt-ltb 0 i l)

pub empty-get : (i : ℕ) → get_of nowhere i ≡ Number 4
unfolding get_of tried shape_ok ends_ok reach_ok all_for end_before
empty-get i = rw (le-leb 0 i (omega arith))

-- ---- the scan's calls

no_length : nowhere.sequence.size ≡ 0
unfolding end_before
no_length = refl

is-source : sound_source nowhere ≡ true
is-source = sound-source empty ∙ empty-sound

pub empty-new : new_of nowhere ≡ Gives (fresh 0 0)
unfolding new_of tried shape_ok ends_ok reach_ok all_for end_before
empty-new = refl

-- any scan that 6 passes: its window ends at 0, and it is fresh or ended
module _ (s : Scan) (good : bad_scan nowhere.sequence s ≡ false) where
  abbrev q : Sequence
  q = nowhere.sequence

  over-all : s.end ≤ 0
  over-all = omega (arith, end-in q s good, no_length)

  -- it is at no index
  at_none : {P : Type 0} (i : ℕ) → outside s (At i) ≡ false → P
  at_none i h = absurd (omega (arith, below_end q s i h, over-all))

  next-over : (t : State) → outside s t ≡ false → next_from q s t ≡ spent s
  unfolding next_from
  next-over Fresh h = to_end q s s.start (omega (arith, over-all))
  next-over (At i) h = at_none i h
  next-over Ended h = refl

  seek-over : (x : ℤ) (t : State) → outside s t ≡ false → seek_from q x s t ≡ spent s
  unfolding seek_from
  seek-over x Fresh h = to_end q s (first_not_below q x s.start s.end) (omega (arith, over-all))
  seek-over x (At i) h = at_none i h
  seek-over x Ended h = refl

  rising : rises q s.start s.end ≡ true
  rising = short-rises q s.start s.end (omega (arith, over-all))

  -- next and seek end it and give nothing
  pub empty-next : next_of nowhere s ≡ spent s
  empty-next = next-does nowhere s ((next-accepts nowhere s).1 (is-source, good)) ∙ next-over s.state (in_place q s good)

  pub empty-seek : (x : ℤ) → seek_of nowhere x s ≡ spent s
  empty-seek x = seek-does nowhere s x ((seek-accepts nowhere s x).1 (is-source, good, rising)) ∙ seek-over x s.state (in_place q s good)

  no-element : (t : State) → outside s t ≡ false → element_in q t ≡ none
  no-element Fresh h = refl
  no-element (At i) h = at_none i h
  no-element Ended h = refl

  no-index : (t : State) → outside s t ≡ false → index_in t ≡ none
  no-index Fresh h = refl
  no-index (At i) h = at_none i h
  no-index Ended h = refl

  pub empty-current : current_of s ≡ Gives none
  empty-current = sound-current q s good ∙ ap Gives (no-element s.state (in_place q s good))

  pub empty-pos : pos_of nowhere s ≡ Gives none
  empty-pos = pos-does nowhere s ((pos-accepts nowhere s).1 (is-source, good)) ∙ ap Gives (no-index s.state (in_place q s good))

  -- "Start at or above end makes it empty, also when start is beyond the column": narrow takes a window that ends at 0, and no other
  pub empty-narrow : (start : ℕ) → narrow_of nowhere start 0 s ≡ record { scan = fresh start 0; said = Gives none }
  empty-narrow start = narrow-does nowhere s start 0 ((narrow-accepts nowhere s start 0).1 (is-source, good, omega arith))

  pub empty-narrow-above : (start end : ℕ) → 0 < end → (narrow_of nowhere start end s).said ≡ Number 5
  empty-narrow-above start end l = (narrow-refuses-5 nowhere s start end).1 (is-source, good, omega (arith, no_length))

  pub empty-reset : reset_of nowhere s ≡ record { scan = fresh s.start s.end; said = Gives none }
  empty-reset = reset-does nowhere s ((reset-accepts nowhere s).1 (is-source, good))

  -- ---- the filter's calls, on that scan

  move-over : (m : Move) → (move_scan q m s).said ≡ Gives none
  move-over Next = ap (λ (m : Outcome). m.said) (next-over s.state (in_place q s good))
  move-over (Seek x) = ap (λ (m : Outcome). m.said) (seek-over x s.state (in_place q s good))

  past-over : (x : ℤ) → (on_past q x (move_scan q (Seek x) s)).said ≡ Gives none
  unfolding on_past
  past-over x = rw (move-over (Seek x))

  go-over : (m : Move) → (lead_from q (Go m) s).said ≡ Gives none
  unfolding lead_from
  go-over m = move-over m

  arrive-over : (low : Limit) → (lead_from q (lead_to low) s).said ≡ Gives none
  unfolding lead_from
  arrive-over Free = move-over Next
  arrive-over (To b) = either (is_exclusive b.boundary) (λ t. rw t (past-over b.value)) (λ t. rw t (move-over (Seek b.value)))

settle-none : (f : Filter) (up : Limit) (m : Outcome) → m.said ≡ Gives none → Barren (settle f up m)
unfolding settle
settle-none f up m h = rw h (refl, refl)

module _ (f : Filter) (good : bad_scan nowhere.sequence f.scan ≡ false) where
  step-none : (k : Call) (t : FilterState) → f.state ≡ t → Barren (step_from nowhere.sequence k f t)
  unfolding step_from
  step-none k Before h = settle-none f (upper_of f k) _ (arrive-over f.scan good (raised k.move (lower_of f k)))
  step-none k (Within up) h = settle-none f up _ (go-over f.scan good k.move)
  step-none k After h = (refl, h)

  -- next and seek that 8 and 9 pass
  pub empty-call : (k : Call) → too_many k ≡ false → unread k f.state ≡ false → Barren (call_of nowhere k f)
  empty-call k few read =
      let ok = (call-accepts nowhere f k).1 (is-source, good, few, rising f.scan good, read) in
      rw (call-does nowhere f k ok) (step-none k f.state refl)

  none_in : (t : FilterState) → current_in f t ≡ none
  none_in Before = refl
  none_in (Within up) = carries nowhere.sequence f.scan good ∙ no-element f.scan good f.scan.state (in_place nowhere.sequence f.scan good)
  none_in After = refl

  pub empty-filter-current : filter_current_of f ≡ Gives none
  empty-filter-current = filter-current-does f ((filter-current-accepts f).1 (good-value nowhere.sequence f.scan good)) ∙ ap Gives (none_in f.state)

-- ---- the listing: of no windows, and of any that end at 0

module _ (low up : Limit) where
  no-values : (w : ℕ) → values_in nowhere.sequence low up (record { start = w; end = 0 }) ≡ []
  unfolding values_in elements_for those
  no-values w = let z : 0 - w ≡ 0 = omega arith in rw z

  pub empty-values : (ss : List ℕ) → values_of nowhere.sequence low up (windows ss (zeros ss)) ≡ []
  unfolding windows values_of
  empty-values [] = refl
  empty-values (w ∷ ws) = ap (λ (xs : List ℤ). xs ++ values_of nowhere.sequence low up (windows ws (zeros ws))) (no-values w) ∙ empty-values ws

  pub empty-counts : (ss : List ℕ) → counts_of nowhere.sequence low up (windows ss (zeros ss)) ≡ zeros ss
  unfolding windows counts_of
  empty-counts [] = refl
  empty-counts (w ∷ ws) = ap (λ (xs : List ℤ). length xs ∷ counts_of nowhere.sequence low up (windows ws (zeros ws))) (no-values w) ∙ same_after 0 (empty-counts ws)

all-inside : (ss : List ℕ) → every (λ (w : Span). not (ltb nowhere.sequence.size w.end)) (windows ss (zeros ss)) ≡ true
unfolding windows every end_before
all-inside [] = refl
all-inside (w ∷ ws) = all-inside ws

all-rise : (ss : List ℕ) → every (λ (w : Span). rises nowhere.sequence w.start w.end) (windows ss (zeros ss)) ≡ true
unfolding windows every
all-rise [] = refl
all-rise (w ∷ ws) = rw (short-rises nowhere.sequence w 0 (omega arith)) (all-rise ws)

-- windows ss: their starts; up to 256 and 16 bounds a list, and a place for each count. The sum is 0, and the output may have no place.
pub empty-listing : (ss : List ℕ) (mode : Mode) (lows ups : Bounds) (out : List ℤ) (counts : List ℕ) → lows.count ≤ 16 → ups.count ≤ 16 → length ss ≤ 256 → length ss ≤ length counts
    → list_of (record { source = nowhere; starts = ss; ends = zeros ss; mode = mode; lower = lows; upper = ups; out = out; counts = counts }) ≡ Gives 0
unfolding list_of tried shape_ok ends_ok reach_ok all_for
empty-listing ss mode lows ups out counts l u n room = rw (
  le-ltb 16 lows.count l,
  le-ltb 16 ups.count u,
  le-ltb 256 (length ss) n,
  eq-eqb (length ss) (length (zeros ss)) (sym (length-map ss (λ (s : ℕ). zero))),
  all-inside ss,
  all-rise ss,
  empty-values (greatest (bounds lows)) (least mode (bounds ups)) ss,
  le-ltb (length out) 0 (omega arith),
  le-ltb (length counts) (length ss) room,
)
