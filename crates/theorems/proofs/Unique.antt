-- "the promise leaves one possible result .., and a proof says that two results meeting it are equal". Assumes nothing.
use Prim.Native.Nat.{ℕ}
use mathlib.Core.Path.{◌≡◌, refl, ap}
use mathlib.Core.Bool.{Bool, true, false}
use mathlib.Core.List.{List}
use mathlib.Core.Option.{Option, some, none}
use lib.IntN.{ℤ}
use Rattle.meaning.specs.Refusals.{Said}
use Rattle.meaning.specs.Sequence.{Source}
use Rattle.meaning.specs.Column.{Column}
use Rattle.meaning.specs.Calls.{diff_step_of, check_of, len_of, is_empty_of, place_of, get_of}
use Rattle.meaning.proofs.Unique.{Injective, one-result, undone, answering, refusal_is}
use Rattle.loftsplice.specs.declared.run_length_encodable.Difference.{Difference}
use Rattle.loftsplice.specs.declared.run_length_encodable.Difference.TheVariants.{Step, None as NoStep}
use Rattle.checked.specs.declared.Checked.{Checked}
use Rattle.checked.specs.declared.Checked.TheVariants.{Fine, Refused as CheckedRefused}
use Rattle.loftsplice.specs.declared.rle.Length.{Length}
use Rattle.loftsplice.specs.declared.rle.Length.TheVariants.{Is, Refused as LengthRefused}
use Rattle.loftsplice.specs.declared.rle.Emptiness.{Emptiness}
use Rattle.loftsplice.specs.declared.rle.Emptiness.TheVariants.{Empty, Held, Refused as EmptinessRefused}
use Rattle.loftsplice.specs.declared.rle.Placed.{Placed}
use Rattle.loftsplice.specs.declared.rle.Placed.TheVariants.{At as PlacedAt, Refused as PlacedRefused}
use Rattle.loftsplice.specs.declared.rle.Got.{Got}
use Rattle.loftsplice.specs.declared.rle.Got.TheVariants.{Value as GotValue, Refused as GotRefused}
use Rattle.loftsplice.specs.declared.scan.Scan.{Scan}
use Rattle.meaning.specs.declared.Answer.{Answer}
use Rattle.meaning.specs.declared.Answer.TheVariants.{Value, None, Refused}
use Rattle.loftsplice.specs.declared.scan.Position.{Position}
use Rattle.loftsplice.specs.declared.scan.Position.TheVariants.{Index as AtIndex, None as NoIndex, Refused as PositionRefused}
use Rattle.loftsplice.specs.declared.scan.Made.{Made}
use Rattle.loftsplice.specs.declared.scan.Made.TheVariants.{Ready as MadeReady, Refused as MadeRefused}
use Rattle.loftsplice.specs.declared.scan.Moved.{Moved}
use Rattle.filter_interval.specs.declared.Filter.{Filter}
use Rattle.bounds.specs.declared.Bounds.{Bounds}
use Rattle.bounds.specs.declared.Mode.{Mode}
use Rattle.bounds.specs.declared.Limit.{Limit}
use Rattle.bounds.specs.declared.Reading.{Reading}
use Rattle.bounds.specs.declared.Reading.TheVariants.{As, Refused as ReadingRefused}
use Rattle.bounds.specs.Bounds.{says_reading}
use Rattle.loftsplice.specs.declared.leading.Lead.{Lead}
use Rattle.loftsplice.specs.Lead.{lead_of}
use Rattle.filter_interval.specs.declared.Fitted.{Fitted}
use Rattle.filter_interval.specs.declared.Fitted.TheVariants.{Ready as FittedReady, Refused as FittedRefused}
use Rattle.filter_interval.specs.declared.Sifted.{Sifted}
use Rattle.filter_interval.specs.declared.sifting.Asked.{Asked}
use Rattle.loftsplice.specs.declared.listing.Listed.{Listed}
use Rattle.loftsplice.specs.declared.listing.Listed.TheVariants.{Sum, Refused as ListedRefused}
use Rattle.loftsplice.specs.declared.running.Counted.{Counted}
use Rattle.loftsplice.specs.declared.running.Counted.TheVariants.{Values, Refused as RunRefused}
use Rattle.loftsplice.specs.declared.running.Ran.{Ran}
use Rattle.loftsplice.specs.declared.running.Footed.{Footed}
use Rattle.loftsplice.specs.declared.running.Footed.TheVariants.{On, Past as PastWindow, Refused as FootedRefused}
use Rattle.checked.specs.Says.{says_checked}
use Rattle.loftsplice.specs.Says.{says_difference, says_length, says_emptiness, says_placed, says_got}
use Rattle.loftsplice.specs.Scan.{says_answer, says_position, says_made, outcome_of, new_of, next_of, seek_of, narrow_of, reset_of, current_of, pos_of}
use Rattle.loftsplice.specs.Running.{says_counted, tally_of, next_run_of, next_run_out, seek_run_of, seek_run_out, says_footed, footing_of}
use Rattle.loftsplice.specs.Listing.{says_listed, Batch, list_of, out_after, counts_after}
use Rattle.filter_interval.specs.Filter.{Call, says_fitted, sifting_of, fit_of, call_of, filter_current_of, filter_reset_of}
use Rattle.filter_interval.specs.Asking.{settled}

-- ---- what each answer says

pub difference-apart : Injective says_difference
difference-apart = undone says_difference (elim [ some d ↦ Step d | none ↦ NoStep ]) (elim [ Step d ↦ refl | NoStep ↦ refl ])

pub checked-apart : Injective says_checked
checked-apart = undone says_checked (answering (λ x. Fine) CheckedRefused) (elim [ Fine ↦ refl | CheckedRefused w ↦ ap CheckedRefused (refusal_is w) ])

pub length-apart : Injective says_length
length-apart = undone says_length (answering Is LengthRefused) (elim [ Is n ↦ refl | LengthRefused w ↦ ap LengthRefused (refusal_is w) ])

pub emptiness-apart : Injective says_emptiness
emptiness-apart = undone says_emptiness (answering (elim [ true ↦ Empty | false ↦ Held ]) EmptinessRefused)
    (elim [ Empty ↦ refl | Held ↦ refl | EmptinessRefused w ↦ ap EmptinessRefused (refusal_is w) ])

pub placed-apart : Injective says_placed
placed-apart = undone says_placed (answering PlacedAt PlacedRefused) (elim [ PlacedAt p ↦ refl | PlacedRefused w ↦ ap PlacedRefused (refusal_is w) ])

pub got-apart : Injective says_got
got-apart = undone says_got (answering GotValue GotRefused) (elim [ GotValue v ↦ refl | GotRefused w ↦ ap GotRefused (refusal_is w) ])

pub listed-apart : Injective says_listed
listed-apart = undone says_listed (answering Sum ListedRefused) (elim [ Sum n ↦ refl | ListedRefused w ↦ ap ListedRefused (refusal_is w) ])

pub reading-apart : Injective says_reading
reading-apart = undone says_reading (answering As ReadingRefused) (elim [ As l ↦ refl | ReadingRefused w ↦ ap ReadingRefused (refusal_is w) ])

pub made-apart : Injective says_made
made-apart = undone says_made (answering MadeReady MadeRefused) (elim [ MadeReady s ↦ refl | MadeRefused w ↦ ap MadeRefused (refusal_is w) ])

pub fitted-apart : Injective says_fitted
fitted-apart = undone says_fitted (answering FittedReady FittedRefused) (elim [ FittedReady f ↦ refl | FittedRefused w ↦ ap FittedRefused (refusal_is w) ])

pub position-apart : Injective says_position
position-apart = undone says_position (answering (elim [ some i ↦ AtIndex i | none ↦ NoIndex ]) PositionRefused)
    (elim [ AtIndex i ↦ refl | NoIndex ↦ refl | PositionRefused w ↦ ap PositionRefused (refusal_is w) ])

abbrev answer_of : Said (Option ℤ) → Answer
answer_of = answering (elim [ some v ↦ Value v | none ↦ None ]) Refused

answer-is : (a : Answer) → answer_of (says_answer a) ≡ a
answer-is = elim [ Value v ↦ refl | None ↦ refl | Refused w ↦ ap Refused (refusal_is w) ]

pub answer-apart : Injective says_answer
answer-apart = undone says_answer answer_of answer-is

-- with the scan, and with the filter, that is handed back
pub outcome-apart : Injective outcome_of
outcome-apart = undone outcome_of (λ o. record { scan = o.scan; answer = answer_of o.said }) (λ m. rw (answer-is m.answer))

pub sifting-apart : Injective sifting_of
sifting-apart = undone sifting_of (λ o. record { filter = o.filter; answer = answer_of o.said }) (λ m. rw (answer-is m.answer))

-- of a run of calls, with the scan; and where a run of seeks begins
pub counted_is : (n : Counted) → answering Values RunRefused (says_counted n) ≡ n
counted_is = elim [ Values n ↦ refl | RunRefused w ↦ ap RunRefused (refusal_is w) ]

pub tally-apart : Injective tally_of
tally-apart = undone tally_of (λ t. record { scan = t.scan; counted = answering Values RunRefused t.said })
    (λ r. rw (counted_is r.counted))

pub footed-apart : Injective says_footed
footed-apart = undone says_footed (answering (elim [ some f ↦ On f | none ↦ PastWindow ]) FootedRefused)
    (elim [ On f ↦ refl | PastWindow ↦ refl | FootedRefused w ↦ ap FootedRefused (refusal_is w) ])

-- ---- a line a call

pub diff-step-one : (previous current : ℤ) (x y : Difference) → says_difference x ≡ diff_step_of previous current → says_difference y ≡ diff_step_of previous current → x ≡ y
diff-step-one previous current = one-result says_difference difference-apart

module _ (p : Source) where
  pub check-one : (x y : Checked) → says_checked x ≡ check_of p → says_checked y ≡ check_of p → x ≡ y
  check-one = one-result says_checked checked-apart

  pub len-one : (x y : Length) → says_length x ≡ len_of p → says_length y ≡ len_of p → x ≡ y
  len-one = one-result says_length length-apart

  pub is-empty-one : (x y : Emptiness) → says_emptiness x ≡ is_empty_of p → says_emptiness y ≡ is_empty_of p → x ≡ y
  is-empty-one = one-result says_emptiness emptiness-apart

  pub place-one : (c : Column) (i : ℕ) (x y : Placed) → says_placed x ≡ place_of c i → says_placed y ≡ place_of c i → x ≡ y
  place-one c i = one-result says_placed placed-apart

  pub get-one : (i : ℕ) (x y : Got) → says_got x ≡ get_of p i → says_got y ≡ get_of p i → x ≡ y
  get-one i = one-result says_got got-apart

-- variable bounds read: whatever the promise says, here said
pub read_one : (said : Said Limit) (x y : Reading) → says_reading x ≡ said → says_reading y ≡ said → x ≡ y
read_one said = one-result says_reading reading-apart

module _ (p : Source) where
  pub new-one : (x y : Made) → says_made x ≡ new_of p → says_made y ≡ new_of p → x ≡ y
  new-one = one-result says_made made-apart

  module _ (s : Scan) where
    pub next_one : (x y : Moved) → outcome_of x ≡ next_of p s → outcome_of y ≡ next_of p s → x ≡ y
    next_one = one-result outcome_of outcome-apart

    pub seek-one : (target : ℤ) (x y : Moved) → outcome_of x ≡ seek_of p target s → outcome_of y ≡ seek_of p target s → x ≡ y
    seek-one target = one-result outcome_of outcome-apart

    pub narrow_one : (start end : ℕ) (x y : Moved) → outcome_of x ≡ narrow_of p start end s → outcome_of y ≡ narrow_of p start end s → x ≡ y
    narrow_one start end = one-result outcome_of outcome-apart

    pub reset-one : (x y : Moved) → outcome_of x ≡ reset_of p s → outcome_of y ≡ reset_of p s → x ≡ y
    reset-one = one-result outcome_of outcome-apart

    -- a scan that a filter leads
    pub led-one : (many unread : Bool) (to : Lead) (x y : Moved) → outcome_of x ≡ lead_of p many unread to s → outcome_of y ≡ lead_of p many unread to s → x ≡ y
    led-one many unread to = one-result outcome_of outcome-apart

    pub current-one : (x y : Answer) → says_answer x ≡ current_of s → says_answer y ≡ current_of s → x ≡ y
    current-one = one-result says_answer answer-apart

    pub pos-one : (x y : Position) → says_position x ≡ pos_of p s → says_position y ≡ pos_of p s → x ≡ y
    pos-one = one-result says_position position-apart

    -- runs of calls: the answer, and the content of the output
    pub next-run-one : (places : ℕ) (x y : Ran) → tally_of x ≡ next_run_of p places s → tally_of y ≡ next_run_of p places s → x ≡ y
    next-run-one places = one-result tally_of tally-apart

    pub next-run-out-one : (old x y : List ℤ) → x ≡ next_run_out p old s → y ≡ next_run_out p old s → x ≡ y
    next-run-out-one old = one-result (λ x. x) (λ x y e. e)

    pub seek-run-one : (targets : List ℤ) (places : ℕ) (x y : Ran) → tally_of x ≡ seek_run_of p targets places s → tally_of y ≡ seek_run_of p targets places s → x ≡ y
    seek-run-one targets places = one-result tally_of tally-apart

    pub seek-run-out-one : (targets old x y : List ℤ) → x ≡ seek_run_out p targets old s → y ≡ seek_run_out p targets old s → x ≡ y
    seek-run-out-one targets old = one-result (λ x. x) (λ x y e. e)

    pub find-footing-one : (c : Column) (x y : Footed) → says_footed x ≡ footing_of c s → says_footed y ≡ footing_of c s → x ≡ y
    find-footing-one c = one-result says_footed footed-apart

  module _ (f : Filter) where
    -- next and seek
    pub filter-call-one : (k : Call) (x y : Sifted) → sifting_of x ≡ call_of p k f → sifting_of y ≡ call_of p k f → x ≡ y
    filter-call-one k = one-result sifting_of sifting-apart

    -- led by what was asked
    pub lead-on-one : (many : Bool) (to : Asked) (x y : Sifted) → sifting_of x ≡ settled f to.upper (lead_of p many to.unread to.lead f.scan)
        → sifting_of y ≡ settled f to.upper (lead_of p many to.unread to.lead f.scan) → x ≡ y
    lead-on-one many to = one-result sifting_of sifting-apart

    pub filter-current-one : (x y : Answer) → says_answer x ≡ filter_current_of f → says_answer y ≡ filter_current_of f → x ≡ y
    filter-current-one = one-result says_answer answer-apart

-- the batch listing: its answer, and the content of both arrays, each promised as it is
module _ (b : Batch) where
  pub list-one : (x y : Listed) → says_listed x ≡ list_of b → says_listed y ≡ list_of b → x ≡ y
  list-one = one-result says_listed listed-apart

  pub list-out-one : (x y : List ℤ) → x ≡ out_after b → y ≡ out_after b → x ≡ y
  list-out-one = one-result (λ x. x) (λ x y e. e)

  pub list-counts-one : (x y : List ℕ) → x ≡ counts_after b → y ≡ counts_after b → x ≡ y
  list-counts-one = one-result (λ x. x) (λ x y e. e)

-- reset promises its result itself
pub filter-reset-one : (f x y : Filter) → x ≡ filter_reset_of f → y ≡ filter_reset_of f → x ≡ y
filter-reset-one f = one-result (λ x. x) (λ x y e. e)

pub filter-new-one : (s : Scan) (mode : Mode) (lows ups : Bounds) (x y : Fitted) → says_fitted x ≡ fit_of s mode lows ups → says_fitted y ≡ fit_of s mode lows ups → x ≡ y
filter-new-one s mode lows ups = one-result says_fitted fitted-apart
