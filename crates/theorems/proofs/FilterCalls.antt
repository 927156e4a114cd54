-- The filter's calls: "Given exactly if", a line a call and refusal; what is accepted, what it does, what a refusal leaves. Assumes nothing.
use Prim.Native.Nat.{ℕ, ◌<◌, ◌≤◌}
use mathlib.Core.Path.{◌≡◌, refl, ap}
use mathlib.Core.Bool.{Bool, true, false, ◌||◌, false≢true}
use mathlib.Core.Logic.Iff
use mathlib.Core.Logic.{◌↔◌, ◌⊎◌}
use mathlib.Core.Option.{Option}
use native.Mathlib.Omega.{arith}
use lib.Dec.{ltb}
use lib.IntN.{ℤ}
use Rattle.ranges.specs.Ranges.{some_of}
use Rattle.ranges.proofs.Bools.{either, not_yes, not-no}
use Rattle.ranges.proofs.Reading.{reading, either-below}
use Rattle.meaning.specs.declared.Refusal.{Refusal}
use Rattle.meaning.specs.declared.Refusal.TheVariants.{Order, Bounds as OverBounds, Input as NoInput}
use Rattle.meaning.specs.Refusals.{Said, Gives, Number, nothing, also}
use Rattle.meaning.specs.Sequence.{Sequence, Source, rises}
use Rattle.loftsplice.specs.Lead.{on_lead}
use Rattle.loftsplice.specs.declared.scan.Scan.{Scan}
use Rattle.bounds.specs.declared.Limit.{Limit}
use Rattle.bounds.specs.declared.Bounds.{Bounds}
use Rattle.bounds.specs.declared.Mode.{Mode}
use Rattle.filter_interval.specs.declared.FilterState.{FilterState}
use Rattle.filter_interval.specs.declared.FilterState.TheVariants.{Before, Within, After}
use Rattle.filter_interval.specs.declared.Filter.{Filter}
use Rattle.loftsplice.specs.Scan.{Outcome, bad_scan, bad_value}
use Rattle.bounds.specs.Bounds.{bounds}
use Rattle.filter_interval.specs.Filter.{Call, Sifting, new_filter, accepts, settle, step_from, too_many, unread, refuse_call, fit_of, call_of, current_in, filter_current_of, upper_of, all_readable}
use Rattle.theorems.specs.Exact.{earlier, accepted, sound_source}
use Rattle.theorems.proofs.Exactly.{Speaks, plainly, exact, accepted-exactly, refused-is, accepted-is, OfScan, scan-tests}
use Rattle.theorems.proofs.ScanCalls.{value_test, value-refuses-6, value-accepts}

-- ---- making a filter

-- "Making a filter applies 8 alone"
module _ (s : Scan) (mode : Mode) (lows ups : Bounds) where
  abbrev fit_tests : Refusal → Bool
  fit_tests = also OverBounds (ltb 16 lows.count || ltb 16 ups.count) nothing

  -- "over 16 bounds in a list"
  pub fit-refuses-8 : (fit_of s mode lows ups ≡ Number 8) ↔ ((16 < lows.count) ⊎ (16 < ups.count))
  unfolding fit_of some_of earlier
  fit-refuses-8 = Iff.trans (exact (plainly _) fit_tests OverBounds refl) (simp (either-below, reading) Iff.rfl)

  pub fit-accepts : (accepted (fit_of s mode lows ups) ≡ true) ↔ ((lows.count ≤ 16) × (ups.count ≤ 16))
  unfolding fit_of
  fit-accepts = Iff.trans (accepted-exactly (plainly _) fit_tests) (simp reading Iff.rfl)

  pub fit-does : accepted (fit_of s mode lows ups) ≡ true → fit_of s mode lows ups ≡ Gives (new_filter s mode (bounds lows) (bounds ups))
  unfolding fit_of
  fit-does = accepted-is (plainly _) fit_tests

-- ---- what a step says is an answer

settle-accepted : (f : Filter) (up : Limit) (m : Outcome) → accepted (settle f up m).said ≡ true
unfolding settle
settle-accepted f up m = either (accepts up m.said) (λ t. rw t (answers m.said t)) (λ t. rw t)
  where
    answers : (x : Said (Option ℤ)) → accepts up x ≡ true → accepted x ≡ true
    answers (Gives v) t = refl
    answers (Number n) t = t

pub step-accepted : (q : Sequence) (k : Call) (f : Filter) (t : FilterState) → accepted (step_from q k f t).said ≡ true
unfolding step_from
step-accepted q k f Before = settle-accepted f (upper_of f k) _
step-accepted q k f (Within up) = settle-accepted f up _
step-accepted q k f After = refl

-- ---- the calls on a filter

-- 9 INPUT: "Before only"
pub before-only : (k : Call) (t : FilterState) → (unread k t ≡ true) ↔ ((t ≡ Before) × (all_readable k ≡ false))
before-only k Before = (λ h. (refl, not-no (all_readable k) h), λ h. not_yes (all_readable k) h.1)
before-only k (Within up) = (λ h. absurd (false≢true h), λ h. let e = h.0 in let z : ◌≡◌ {A = ℕ} 0 1 = cc in absurd (omega arith))
before-only k After = (λ h. absurd (false≢true h), λ h. let e = h.0 in let z : ◌≡◌ {A = ℕ} 0 1 = cc in absurd (omega arith))

module _ (p : Source) (f : Filter) where
  abbrev bad : Bool
  bad = bad_scan p.sequence f.scan

  abbrev rising : Bool
  rising = rises p.sequence f.scan.start f.scan.end

  -- next and seek
  module _ (k : Call) where
    abbrev tests : Refusal → Bool
    tests = on_lead p (too_many k) (unread k f.state) f.scan

    calls : Speaks (λ (o : Sifting). o.said) (refuse_call f) (step_from p.sequence k f f.state)
    calls = record { refuses = λ n. refl; accepts = step-accepted p.sequence k f f.state }

    pub call-refuses : OfScan p f.scan (call_of p k f).said
    unfolding call_of
    call-refuses = scan-tests calls tests p refl refl refl f.scan refl

    -- "in any filter state: over 16 bounds in a list, over 8 inputs"
    pub call-refuses-8 : ((call_of p k f).said ≡ Number 8) ↔ ((sound_source p ≡ true) × (bad ≡ false) × (too_many k ≡ true))
    unfolding call_of some_of earlier sound_source
    call-refuses-8 = Iff.trans (exact calls tests OverBounds refl) (simp reading Iff.rfl)

    -- "filter next or seek .. over a window that doesn't rise"
    pub call-refuses-7 : ((call_of p k f).said ≡ Number 7) ↔ ((sound_source p ≡ true) × (bad ≡ false) × (too_many k ≡ false) × (rising ≡ false))
    unfolding call_of some_of earlier sound_source
    call-refuses-7 = Iff.trans (exact calls tests Order refl) (simp reading Iff.rfl)

    -- "Before only: a variable bound names an input that isn't there or has no value"
    pub call-refuses-9 : ((call_of p k f).said ≡ Number 9)
        ↔ ((sound_source p ≡ true) × (bad ≡ false) × (too_many k ≡ false) × (rising ≡ true) × ((f.state ≡ Before) × (all_readable k ≡ false)))
    unfolding call_of some_of earlier sound_source
    call-refuses-9 = Iff.trans (exact calls tests NoInput refl) (simp (before-only, reading) Iff.rfl)

    pub call-accepts : (accepted (call_of p k f).said ≡ true)
        ↔ ((sound_source p ≡ true) × (bad ≡ false) × (too_many k ≡ false) × (rising ≡ true) × (unread k f.state ≡ false))
    unfolding call_of sound_source
    call-accepts = Iff.trans (accepted-exactly calls tests) (simp reading Iff.rfl)

    pub call-does : accepted (call_of p k f).said ≡ true → call_of p k f ≡ step_from p.sequence k f f.state
    unfolding call_of
    call-does = accepted-is calls tests

    -- "scan and filter come back as they went in"
    pub call-keeps : accepted (call_of p k f).said ≡ false → (call_of p k f).filter ≡ f
    unfolding call_of
    call-keeps h = ap (λ (o : Sifting). o.filter) (refused-is calls tests h).1

-- "`current`, the filter's too, checks no column and refuses 6 only where ..", in any filter state
module _ (f : Filter) where
  pub filter-current-refuses-6 : (filter_current_of f ≡ Number 6) ↔ (bad_value f.scan ≡ true)
  unfolding filter_current_of
  filter-current-refuses-6 = value-refuses-6 f.scan _

  pub filter-current-accepts : (accepted (filter_current_of f) ≡ true) ↔ (bad_value f.scan ≡ false)
  unfolding filter_current_of
  filter-current-accepts = value-accepts f.scan _

  -- "the scan's answers what is carried, the filter's the same when Within, else none"
  pub filter-current-does : accepted (filter_current_of f) ≡ true → filter_current_of f ≡ Gives (current_in f f.state)
  unfolding filter_current_of
  filter-current-does = accepted-is (plainly _) (value_test f.scan)
