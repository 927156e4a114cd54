-- Document 02, request 8: a scan carries the element that it stands on. Everything that makes or moves a scan keeps this true; `current` answers
-- what document 01's `current` answered with the column; no call repairs what is carried. Assumes nothing.
use Prim.Native.Nat.{ℕ, ◌≤◌}
use mathlib.Core.Path.{◌≡◌, refl, sym, ap, ◌∙◌}
use mathlib.Core.Bool.{Bool, true, false, not, ◌||◌}
use mathlib.Core.List.{List, [], ◌∷◌}
use mathlib.Core.Logic.Iff
use mathlib.Core.Logic.{◌↔◌}
use mathlib.Core.Option.{Option, some, none}
use native.Mathlib.Nat.{le_refl}
use borrow.Author.Tests.{le-ltb}
use lib.IntN.{ℤ}
use Rattle.ranges.proofs.Bools.{either, clash, or_left}
use Rattle.ranges.proofs.Reading.{reading}
use Rattle.meaning.specs.declared.Refusal.{Refusal}
use Rattle.meaning.specs.declared.Refusal.TheVariants.{Scan as OffScan}
use Rattle.meaning.specs.Refusals.{Gives, Number, call_order, also}
use Rattle.meaning.specs.Sequence.{Sequence, Source, on_source}
use Rattle.bounds.specs.declared.Mode.{Mode}
use Rattle.bounds.specs.declared.Bound.{Bound}
use Rattle.bounds.specs.declared.Bounds.{Bounds}
use Rattle.bounds.specs.Bounds.{bounds}
use Rattle.loftsplice.specs.declared.leading.Lead.{Lead}
use Rattle.loftsplice.specs.declared.scan.State.{State}
use Rattle.loftsplice.specs.declared.scan.State.TheVariants.{Fresh, At, Ended}
use Rattle.loftsplice.specs.declared.scan.Scan.{Scan}
use Rattle.loftsplice.specs.Scan.{element_in, carried_by, same_value, misplaced, fresh, bad_scan, bad_value, new_of, current_of, pos_of, Call as ScanCall, Go, Narrow, Reset, called, left_by}
use Rattle.loftsplice.specs.declared.scan.Move.TheVariants.{Next, Seek}
use Rattle.loftsplice.specs.Lead.{lead_of}
use Rattle.loftsplice.proofs.ScanCases.{carries, end-in}
use Rattle.filter_interval.specs.declared.FilterState.{FilterState}
use Rattle.filter_interval.specs.declared.FilterState.TheVariants.{Before, Within, After}
use Rattle.filter_interval.specs.declared.Filter.{Filter}
use Rattle.filter_interval.specs.Filter.{Call, new_filter, fit_of, call_of, current_in, filter_current_of}
use Rattle.theorems.specs.Exact.{NoneOf, accepted, sound_source}
use Rattle.theorems.specs.Table.{FilterAct, ask, again, look, filter_act}
use Rattle.theorems.specs.Resets.{filter_left}
use Rattle.theorems.specs.Carried.{off_window, current_with, element_within, filter_current_with, differs, wrong_value}
use Rattle.theorems.proofs.Exactly.{plainly, says, accepted-exactly, accepted-is}
use Rattle.theorems.proofs.ScanCalls.{new-accepts, new-does, next-refuses, next-accepts, seek-refuses, seek-accepts, narrow-refuses, narrow-accepts, narrow-does, narrow_keeps, reset-refuses, reset-accepts, reset-does, reset-keeps, pos-refuses, current-accepts, current-does, move-does, move-keeps, lead-accepts, lead-does, lead-keeps}
use Rattle.theorems.proofs.FilterCalls.{fit-does, call-accepts, call-does, call-keeps, filter-current-accepts, filter-current-does}
use Rattle.theorems.proofs.Moves.{Restricted, fresh-restricted, restricted-bad, unmoved, move-restricted}
use Rattle.theorems.proofs.AcceptedRuns.{lead-restricted, step-begun}

-- ---- a sound scan: one that 6 passes

module _ (q : Sequence) (s : Scan) (good : bad_scan q s ≡ false) where
  -- the 6 of `current` passes it, too,
  pub good-value : bad_value s ≡ false
  good-value = ap (misplaced s.state) (carries q s good) ∙ placed s.state
    where
      placed : (t : State) → misplaced t (element_in q t) ≡ false
      placed Fresh = refl
      placed (At i) = refl
      placed Ended = refl

  -- and `current` answers the element that it stands on
  pub sound-current : current_of s ≡ Gives (element_in q s.state)
  sound-current = current-does s ((current-accepts s).1 good-value) ∙ ap Gives (carries q s good)

  -- what keeps to its window and carries its element is sound
  restricted-sound : (t : Scan) → Restricted q s.start s.end t → bad_scan q t ≡ false
  restricted-sound t r = restricted-bad q t r ∙ sym (restricted-bad q s (unmoved q s good)) ∙ good

fresh-sound : (q : Sequence) (start end : ℕ) → end ≤ q.size → bad_scan q (fresh start end) ≡ false
fresh-sound q start end l = restricted-bad q (fresh start end) (fresh-restricted q start end) ∙ le-ltb q.size end l

module _ (p : Source) where
  abbrev q : Sequence
  q = p.sequence

  -- ---- "Everything that makes or moves a scan keeps this true."

  pub new-sound : (s : Scan) → new_of p ≡ Gives s → bad_scan q s ≡ false
  new-sound s h =
      let made : Gives (fresh 0 q.size) ≡ Gives s = sym (new-does p (ap accepted h)) ∙ h in
      let is : fresh 0 q.size ≡ s = cc in
      ap (bad_scan q) (sym is) ∙ fresh-sound q 0 q.size (le_refl _)

  -- a call that is refused hands back the scan that it was handed
  pub called-keeps : (k : ScanCall) (s : Scan) → accepted (called p k s).said ≡ false → (called p k s).scan ≡ s
  called-keeps (Go m) s = move-keeps p s m
  called-keeps (Narrow start end) s = narrow_keeps p s start end
  called-keeps Reset s = reset-keeps p s

  -- next, seek, narrow and reset, accepted or refused
  pub called-sound : (k : ScanCall) (s : Scan) → bad_scan q s ≡ false → bad_scan q (called p k s).scan ≡ false
  called-sound k s good = either (accepted (called p k s).said) (accepts k) (λ t. rw (called-keeps k s t) good)
    where
      accepts : (k : ScanCall) → accepted (called p k s).said ≡ true → bad_scan q (called p k s).scan ≡ false
      accepts (Go m) t = rw (move-does p s m t) (restricted-sound q s good _ (move-restricted q s m (unmoved q s good)))
      accepts (Narrow start end) t = rw (narrow-does p s start end t) (fresh-sound q start end ((narrow-accepts p s start end).0 t).2)
      accepts Reset t = rw (reset-does p s t) (fresh-sound q s.start s.end (end-in q s good))

  -- THE INVARIANT. Any run of calls leaves a sound scan sound.
  pub left-sound : (ks : List ScanCall) (s : Scan) → bad_scan q s ≡ false → bad_scan q (left_by p s ks) ≡ false
  unfolding left_by
  left-sound [] s good = good
  left-sound (k ∷ ks) s good = left-sound ks (called p k s).scan (called-sound k s good)

  -- a scan that a filter leads
  pub led-sound : (many unread : Bool) (l : Lead) (s : Scan) → bad_scan q s ≡ false → bad_scan q (lead_of p many unread l s).scan ≡ false
  led-sound many unread l s good =
      either (accepted (lead_of p many unread l s).said)
      (λ t. rw (lead-does p s many unread l t) (restricted-sound q s good _ (lead-restricted q s.start s.end l s (unmoved q s good))))
      (λ t. rw (lead-keeps p s many unread l t) good)

  -- the filter's next and seek; then reset and current, which leave the scan as it is; then any run of them
  pub asked-sound : (k : Call) (f : Filter) → bad_scan q f.scan ≡ false → bad_scan q (call_of p k f).filter.scan ≡ false
  asked-sound k f good =
      let s = f.scan in
      either (accepted (call_of p k f).said)
      (λ t. rw (call-does p f k t) (restricted-sound q s good _ (step-begun q s.start s.end k f (unmoved q s good)).scan))
      (λ t. rw (call-keeps p f k t) good)

  pub act-sound : (a : FilterAct) (f : Filter) → bad_scan q f.scan ≡ false → bad_scan q (filter_act p a f).filter.scan ≡ false
  act-sound (ask k) f good = asked-sound k f good
  act-sound again f good = good
  act-sound look f good = good

  pub filter-left-sound : (as' : List FilterAct) (f : Filter) → bad_scan q f.scan ≡ false → bad_scan q (filter_left p as' f).scan ≡ false
  unfolding filter_left
  filter-left-sound [] f good = good
  filter-left-sound (a ∷ more) f good = filter-left-sound more (filter_act p a f).filter (act-sound a f good)

  -- ---- "so that `current` needs no column": it answers what document 01's did with it

  abbrev window_tests : Scan → Refusal → Bool
  window_tests s = also OffScan (off_window q s) (on_source p)

  -- document 01's is accepted exactly if 1, 2, 3 and its 6 pass
  module _ (s : Scan) (is-sound : sound_source p ≡ true) (good : bad_scan q s ≡ false) where
    window-passes : off_window q s ≡ false
    unfolding bad_scan
    window-passes = or_left (off_window q s) (not (same_value (carried_by s.value) (element_in q s.state))) good

    with-accepts : {A : Type 0} (a : A) → accepted (says (plainly a) (window_tests s)) ≡ true
    unfolding sound_source
    with-accepts a = (Iff.trans (accepted-exactly (plainly a) (window_tests s)) reads).1 (is-sound, window-passes)
      where
        reads : NoneOf (window_tests s) call_order ↔ ((sound_source p ≡ true) × (off_window q s ≡ false))
        reads = simp reading Iff.rfl

  pub current-as-with-the-column : (s : Scan) → sound_source p ≡ true → bad_scan q s ≡ false → current_of s ≡ current_with p s
  unfolding current_with
  current-as-with-the-column s is-sound good = sound-current q s good ∙ sym (accepted-is (plainly _) (window_tests s) (with-accepts s is-sound good _))

  pub filter-current-as-with-the-column : (f : Filter) → sound_source p ≡ true → bad_scan q f.scan ≡ false → filter_current_of f ≡ filter_current_with p f
  unfolding filter_current_with
  filter-current-as-with-the-column f is-sound good =
      filter-current-does f ((filter-current-accepts f).1 (good-value q f.scan good))
      ∙ ap Gives (within f.state)
      ∙ sym (accepted-is (plainly _) (window_tests f.scan) (with-accepts f.scan is-sound good _))
    where
      within : (t : FilterState) → current_in f t ≡ element_within q f t
      within Before = refl
      within (Within up) = carries q f.scan good
      within After = refl

  -- so it does after any calls on a new scan, and on any filter over what they leave
  module _ (s : Scan) (made : new_of p ≡ Gives s) (ks : List ScanCall) where
    is-source : sound_source p ≡ true
    is-source = (new-accepts p).0 (ap accepted made)

    pub current-after-any-calls : current_of (left_by p s ks) ≡ current_with p (left_by p s ks)
    current-after-any-calls = current-as-with-the-column (left_by p s ks) is-source (left-sound ks s (new-sound s made))

    pub filter-current-after-any-calls : (mode : Mode) (lows ups : List Bound) (as' : List FilterAct) → let f = filter_left p as' (new_filter (left_by p s ks) mode lows ups) in filter_current_of f ≡ filter_current_with p f
    filter-current-after-any-calls mode lows ups as' =
        let f = new_filter (left_by p s ks) mode lows ups in
        filter-current-as-with-the-column (filter_left p as' f) is-source (filter-left-sound as' f (left-sound ks s (new-sound s made)))

  -- ---- no repair: a scan that is not sound comes back as it went in, from every call

  pub unsound-refused : (k : ScanCall) (s : Scan) → bad_scan q s ≡ true → accepted (called p k s).said ≡ false
  unsound-refused k s bad = either (accepted (called p k s).said) (λ t. clash bad (accepts k t)) (λ t. t)
    where
      accepts : (k : ScanCall) → accepted (called p k s).said ≡ true → bad_scan q s ≡ false
      accepts (Go Next) t = ((next-accepts p s).0 t).1
      accepts (Go (Seek x)) t = ((seek-accepts p s x).0 t).1
      accepts (Narrow start end) t = ((narrow-accepts p s start end).0 t).1
      accepts Reset t = ((reset-accepts p s).0 t).1

  pub no-repair : (ks : List ScanCall) (s : Scan) → bad_scan q s ≡ true → left_by p s ks ≡ s
  unfolding left_by
  no-repair [] s bad = refl
  no-repair (k ∷ ks) s bad = rw (called-keeps k s (unsound-refused k s bad)) (no-repair ks s bad)

  pub led-no-repair : (many unread : Bool) (l : Lead) (s : Scan) → bad_scan q s ≡ true → (lead_of p many unread l s).scan ≡ s
  led-no-repair many unread l s bad =
      either (accepted (lead_of p many unread l s).said) (λ t. clash bad ((lead-accepts p s many unread l).0 t).1) (lead-keeps p s many unread l)

  filter-act-keeps : (a : FilterAct) (f : Filter) → bad_scan q f.scan ≡ true → (filter_act p a f).filter.scan ≡ f.scan
  filter-act-keeps (ask k) f bad =
      either (accepted (call_of p k f).said) (λ t. clash bad ((call-accepts p f k).0 t).1) (λ t. ap (λ (g : Filter). g.scan) (call-keeps p f k t))
  filter-act-keeps again f bad = refl
  filter-act-keeps look f bad = refl

  pub filter-no-repair : (as' : List FilterAct) (f : Filter) → bad_scan q f.scan ≡ true → (filter_left p as' f).scan ≡ f.scan
  unfolding filter_left
  filter-no-repair [] f bad = refl
  filter-no-repair (a ∷ more) f bad =
      let e = filter-act-keeps a f bad in filter-no-repair more (filter_act p a f).filter (ap (bad_scan q) e ∙ bad) ∙ e

  -- ---- where `current` answers though all other calls refuse 6

  module _ (s : Scan) where
    -- THE THREE CONDITIONS OF 6: document 01's; "a value is there when fresh or ended or missing at an index", which is the 6 of `current`; and "the
    -- carried value is not the column's element at that index"
    pub six-is : bad_scan q s ≡ (off_window q s || (bad_value s || wrong_value q s))
    unfolding bad_scan
    six-is = ap (λ t. off_window q s || t) (by s.state (carried_by s.value))
      where
        by : (t : State) (v : Option ℤ) → not (same_value v (element_in q t)) ≡ (misplaced t v || differs q t v)
        by Fresh none = refl
        by Fresh (some v) = refl
        by (At i) none = refl
        by (At i) (some v) = refl
        by Ended none = refl
        by Ended (some v) = refl

    -- the first and the third it can't see: it answers what is carried, be that right or wrong, and every other call refuses 6
    module _ (is-sound : sound_source p ≡ true) (placed : bad_value s ≡ false) (unseen : (off_window q s || wrong_value q s) ≡ true) where
      abbrev bad : bad_scan q s ≡ true
      bad = six-is ∙ ap (λ t. off_window q s || (t || wrong_value q s)) placed ∙ unseen

      pub current-answers-all-the-same : current_of s ≡ Gives (carried_by s.value)
      current-answers-all-the-same = current-does s ((current-accepts s).1 placed)

      pub others-refuse-6 : (k : ScanCall) → (called p k s).said ≡ Number 6
      others-refuse-6 (Go Next) = (next-refuses p s).refuses-6.1 (is-sound, bad)
      others-refuse-6 (Go (Seek x)) = (seek-refuses p s x).refuses-6.1 (is-sound, bad)
      others-refuse-6 (Narrow start end) = (narrow-refuses p s start end).refuses-6.1 (is-sound, bad)
      others-refuse-6 Reset = (reset-refuses p s).refuses-6.1 (is-sound, bad)

      pub pos-refuses-6 : pos_of p s ≡ Number 6
      pos-refuses-6 = (pos-refuses p s).refuses-6.1 (is-sound, bad)

-- making a filter takes any scan, and does not touch it: one that is sound stays so
pub fitted-keeps : (s : Scan) (mode : Mode) (lows ups : Bounds) (f : Filter) → fit_of s mode lows ups ≡ Gives f → f.scan ≡ s
fitted-keeps s mode lows ups f h =
    let made : Gives (new_filter s mode (bounds lows) (bounds ups)) ≡ Gives f = sym (fit-does s mode lows ups (ap accepted h)) ∙ h in
    let is : new_filter s mode (bounds lows) (bounds ups) ≡ f = cc in
    ap (λ (g : Filter). g.scan) (sym is)
