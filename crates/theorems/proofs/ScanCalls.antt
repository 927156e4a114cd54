-- The scan's calls: "Given exactly if", a line a call and refusal; what is accepted, what it does, what a refusal leaves. Assumes nothing.
use Prim.Native.Nat.{ℕ, suc, ◌<◌, ◌≤◌}
use mathlib.Core.Path.{◌≡◌, refl, ap}
use mathlib.Core.Bool.{Bool, true, false}
use mathlib.Core.Logic.Iff
use mathlib.Core.Logic.{◌↔◌}
use mathlib.Core.Option.{none}
use lib.Dec.{ltb}
use lib.IntN.{ℤ}
use Rattle.ranges.specs.Ranges.{some_of}
use Rattle.ranges.proofs.Bools.{either}
use Rattle.ranges.proofs.Reading.{reading, same_test}
use Rattle.meaning.specs.declared.Refusal.{Refusal}
use Rattle.meaning.specs.declared.Refusal.TheVariants.{Window, Order, Scan as OffScan}
use Rattle.meaning.specs.Refusals.{Said, Gives, Number, nothing, also, judged}
use Rattle.meaning.specs.Sequence.{Sequence, Source, on_source, rises, first_not_below}
use Rattle.loftsplice.specs.declared.scan.Move.TheVariants.{Next, Seek}
use Rattle.loftsplice.specs.declared.scan.Move.{Move}
use Rattle.loftsplice.specs.declared.scan.State.{State}
use Rattle.loftsplice.specs.declared.scan.State.TheVariants.{Fresh, At, Ended}
use Rattle.loftsplice.specs.declared.scan.Scan.{Scan}
use Rattle.loftsplice.specs.declared.leading.Lead.{Lead}
use Rattle.loftsplice.specs.declared.leading.Lead.TheVariants.{Stay, Go as Onward, Past}
use Rattle.loftsplice.specs.Lead.{found, on_past, lead_from, on_lead, lead_of}
use Rattle.loftsplice.specs.Scan.{Outcome, fresh, go_to, next_from, seek_from, carried_by, index_in, bad_scan, bad_value, on_scan, on_rising, refuse, new_of, next_of, seek_of, narrow_of, reset_of, current_of, pos_of, move_scan, called, Go}
use Rattle.theorems.specs.Exact.{earlier, accepted, sound_source}
use Rattle.theorems.specs.Runs.{allowed_scan}
use Rattle.theorems.proofs.Exactly.{Speaks, plainly, says, exact, accepted-exactly, refused-is, accepted-is, OfSource, OfScan, source-tests, scan-tests}

-- ---- making a scan

module _ (p : Source) where
  pub new-refuses : OfSource p (new_of p)
  unfolding new_of
  new-refuses = source-tests (plainly _) (on_source p) p refl refl refl

  pub new-accepts : (accepted (new_of p) ≡ true) ↔ (sound_source p ≡ true)
  unfolding new_of sound_source
  new-accepts = Iff.trans (accepted-exactly (plainly _) (on_source p)) (simp reading Iff.rfl)

  pub new-does : accepted (new_of p) ≡ true → new_of p ≡ Gives (fresh 0 p.sequence.size)
  unfolding new_of
  new-does = accepted-is (plainly _) (on_source p)

-- ---- what a move says is an answer

to-accepted : (q : Sequence) (s : Scan) (i : ℕ) → accepted (go_to q s i).said ≡ true
unfolding go_to
to-accepted q s i = either (ltb i s.end) (λ t. rw t) (λ t. rw t)

next-accepted : (q : Sequence) (s : Scan) (t : State) → accepted (next_from q s t).said ≡ true
unfolding next_from
next-accepted q s Fresh = to-accepted q s s.start
next-accepted q s (At i) = to-accepted q s (suc i)
next-accepted q s Ended = refl

seek-accepted : (q : Sequence) (x : ℤ) (s : Scan) (t : State) → accepted (seek_from q x s t).said ≡ true
unfolding seek_from
seek-accepted q x s Fresh = to-accepted q s (first_not_below q x s.start s.end)
seek-accepted q x s (At i) = to-accepted q s (first_not_below q x i s.end)
seek-accepted q x s Ended = refl

lead-accepted : (q : Sequence) (l : Lead) (s : Scan) → accepted (lead_from q l s).said ≡ true
unfolding lead_from on_past
lead-accepted q Stay s = refl
lead-accepted q (Onward Next) s = next-accepted q s s.state
lead-accepted q (Onward (Seek x)) s = seek-accepted q x s s.state
lead-accepted q (Past x) s =
    let m = seek_from q x s s.state in
    either (found x m.said) (λ t. rw t (next-accepted q m.scan m.scan.state)) (λ t. rw t (seek-accepted q x s s.state))

-- ---- a call that "checks no column and refuses 6 only where a value is there when fresh or ended or missing at an index"

module _ (s : Scan) where
  abbrev pub value_test : Refusal → Bool
  value_test = also OffScan (bad_value s) nothing

  module _ {A : Type 0} (a : A) where
    pub value-refuses-6 : (says (plainly a) value_test ≡ Number 6) ↔ (bad_value s ≡ true)
    unfolding some_of earlier
    value-refuses-6 = Iff.trans (exact (plainly a) value_test OffScan refl) (simp reading Iff.rfl)

    pub value-accepts : (accepted (says (plainly a) value_test) ≡ true) ↔ (bad_value s ≡ false)
    value-accepts = Iff.trans (accepted-exactly (plainly a) value_test) (simp reading Iff.rfl)

  pub current-refuses-6 : (current_of s ≡ Number 6) ↔ (bad_value s ≡ true)
  unfolding current_of
  current-refuses-6 = value-refuses-6 _

  pub current-accepts : (accepted (current_of s) ≡ true) ↔ (bad_value s ≡ false)
  unfolding current_of
  current-accepts = value-accepts _

  -- it "answers what is carried"
  pub current-does : accepted (current_of s) ≡ true → current_of s ≡ Gives (carried_by s.value)
  unfolding current_of
  current-does = accepted-is (plainly _) value_test

-- ---- the calls on a scan

module _ (p : Source) (s : Scan) where
  abbrev bad : Bool
  bad = bad_scan p.sequence s

  abbrev rising : Bool
  rising = rises p.sequence s.start s.end

  -- a call that applies 1, 2, 3 and 6 alone
  module _ {A B : Type 0} {said : A → Said B} {refuses : ℕ → A} {answer : A} (call : Speaks said refuses answer) where
    pub scan-refuses : OfScan p s (says call (on_scan p s))
    scan-refuses = scan-tests call (on_scan p s) p refl refl refl s refl

    pub scan-accepts : (accepted (says call (on_scan p s)) ≡ true) ↔ ((sound_source p ≡ true) × (bad ≡ false))
    unfolding sound_source
    scan-accepts = Iff.trans (accepted-exactly call (on_scan p s)) (simp reading Iff.rfl)

  -- a call that hands its scan back: "scan .. come back as they went in"
  abbrev Handing : Outcome → Type 0
  Handing m = Speaks (λ (o : Outcome). o.said) (refuse s) m

  handing : {m : Outcome} → accepted m.said ≡ true → Handing m
  handing a = record { refuses = λ n. refl; accepts = a }

  scan-keeps : {m : Outcome} → Handing m → (f : Refusal → Bool) → accepted (judged (refuse s) f m).said ≡ false → (judged (refuse s) f m).scan ≡ s
  scan-keeps call f h = ap (λ (o : Outcome). o.scan) (refused-is call f h).1

  nexts : Handing (next_from p.sequence s s.state)
  nexts = handing (next-accepted p.sequence s s.state)

  pub next-refuses : OfScan p s (next_of p s).said
  unfolding next_of
  next-refuses = scan-refuses nexts

  pub next-accepts : (accepted (next_of p s).said ≡ true) ↔ ((sound_source p ≡ true) × (bad ≡ false))
  unfolding next_of
  next-accepts = scan-accepts nexts

  pub next-does : accepted (next_of p s).said ≡ true → next_of p s ≡ next_from p.sequence s s.state
  unfolding next_of
  next-does = accepted-is nexts (on_scan p s)

  pub next-keeps : accepted (next_of p s).said ≡ false → (next_of p s).scan ≡ s
  unfolding next_of
  next-keeps = scan-keeps nexts (on_scan p s)

  module _ (target : ℤ) where
    seeks : Handing (seek_from p.sequence target s s.state)
    seeks = handing (seek-accepted p.sequence target s s.state)

    pub seek-refuses : OfScan p s (seek_of p target s).said
    unfolding seek_of
    seek-refuses = scan-tests seeks (on_rising p s) p refl refl refl s refl

    -- "scan seek .. over a window that doesn't rise"
    pub seek-refuses-7 : ((seek_of p target s).said ≡ Number 7) ↔ ((sound_source p ≡ true) × (bad ≡ false) × (rising ≡ false))
    unfolding seek_of some_of earlier sound_source
    seek-refuses-7 = Iff.trans (exact seeks (on_rising p s) Order refl) (simp reading Iff.rfl)

    pub seek-accepts : (accepted (seek_of p target s).said ≡ true) ↔ ((sound_source p ≡ true) × (bad ≡ false) × (rising ≡ true))
    unfolding seek_of sound_source
    seek-accepts = Iff.trans (accepted-exactly seeks (on_rising p s)) (simp reading Iff.rfl)

    pub seek-does : accepted (seek_of p target s).said ≡ true → seek_of p target s ≡ seek_from p.sequence target s s.state
    unfolding seek_of
    seek-does = accepted-is seeks (on_rising p s)

    pub seek-keeps : accepted (seek_of p target s).said ≡ false → (seek_of p target s).scan ≡ s
    unfolding seek_of
    seek-keeps = scan-keeps seeks (on_rising p s)

  module _ (start end : ℕ) where
    abbrev narrow_tests : Refusal → Bool
    narrow_tests = also Window (ltb p.sequence.size end) (on_scan p s)

    narrows : Handing (record { scan = fresh start end; said = Gives none })
    narrows = handing refl

    pub narrow-refuses : OfScan p s (narrow_of p start end s).said
    unfolding narrow_of
    narrow-refuses = scan-tests narrows narrow_tests p refl refl refl s refl

    -- "window end above length"
    pub narrow-refuses-5 : ((narrow_of p start end s).said ≡ Number 5) ↔ ((sound_source p ≡ true) × (bad ≡ false) × (p.sequence.size < end))
    unfolding narrow_of some_of earlier sound_source
    narrow-refuses-5 = Iff.trans (exact narrows narrow_tests Window refl) (simp reading Iff.rfl)

    pub narrow-accepts : (accepted (narrow_of p start end s).said ≡ true) ↔ ((sound_source p ≡ true) × (bad ≡ false) × (end ≤ p.sequence.size))
    unfolding narrow_of sound_source
    narrow-accepts = Iff.trans (accepted-exactly narrows narrow_tests) (simp reading Iff.rfl)

    pub narrow-does : accepted (narrow_of p start end s).said ≡ true → narrow_of p start end s ≡ record { scan = fresh start end; said = Gives none }
    unfolding narrow_of
    narrow-does = accepted-is narrows narrow_tests

    pub narrow_keeps : accepted (narrow_of p start end s).said ≡ false → (narrow_of p start end s).scan ≡ s
    unfolding narrow_of
    narrow_keeps = scan-keeps narrows narrow_tests

  resets : Handing (record { scan = fresh s.start s.end; said = Gives none })
  resets = handing refl

  pub reset-refuses : OfScan p s (reset_of p s).said
  unfolding reset_of
  reset-refuses = scan-refuses resets

  pub reset-accepts : (accepted (reset_of p s).said ≡ true) ↔ ((sound_source p ≡ true) × (bad ≡ false))
  unfolding reset_of
  reset-accepts = scan-accepts resets

  pub reset-does : accepted (reset_of p s).said ≡ true → reset_of p s ≡ record { scan = fresh s.start s.end; said = Gives none }
  unfolding reset_of
  reset-does = accepted-is resets (on_scan p s)

  pub reset-keeps : accepted (reset_of p s).said ≡ false → (reset_of p s).scan ≡ s
  unfolding reset_of
  reset-keeps = scan-keeps resets (on_scan p s)

  pub pos-refuses : OfScan p s (pos_of p s)
  unfolding pos_of
  pos-refuses = scan-refuses (plainly _)

  pub pos-accepts : (accepted (pos_of p s) ≡ true) ↔ ((sound_source p ≡ true) × (bad ≡ false))
  unfolding pos_of
  pos-accepts = scan-accepts (plainly _)

  pub pos-does : accepted (pos_of p s) ≡ true → pos_of p s ≡ Gives (index_in s.state)
  unfolding pos_of
  pos-does = accepted-is (plainly _) (on_scan p s)

  -- ---- next or seek

  -- accepted exactly if it is allowed
  pub move-accepts : (m : Move) → accepted (called p (Go m) s).said ≡ allowed_scan p m s
  unfolding allowed_scan
  move-accepts Next = same_test _ _ (Iff.trans next-accepts (simp reading Iff.rfl))
  move-accepts (Seek x) = same_test _ _ (Iff.trans (seek-accepts x) (simp reading Iff.rfl))

  pub move-does : (m : Move) → accepted (called p (Go m) s).said ≡ true → called p (Go m) s ≡ move_scan p.sequence m s
  move-does Next = next-does
  move-does (Seek x) = seek-does x

  pub move-keeps : (m : Move) → accepted (called p (Go m) s).said ≡ false → (called p (Go m) s).scan ≡ s
  move-keeps Next = next-keeps
  move-keeps (Seek x) = seek-keeps x

  -- ---- a scan that a filter leads

  module _ (many unread : Bool) (l : Lead) where
    leads : Handing (lead_from p.sequence l s)
    leads = handing (lead-accepted p.sequence l s)

    pub lead-refuses : OfScan p s (lead_of p many unread l s).said
    unfolding lead_of
    lead-refuses = scan-tests leads (on_lead p many unread s) p refl refl refl s refl

    pub lead-accepts : (accepted (lead_of p many unread l s).said ≡ true)
        ↔ ((sound_source p ≡ true) × (bad ≡ false) × (many ≡ false) × (rising ≡ true) × (unread ≡ false))
    unfolding lead_of sound_source
    lead-accepts = Iff.trans (accepted-exactly leads (on_lead p many unread s)) (simp reading Iff.rfl)

    pub lead-does : accepted (lead_of p many unread l s).said ≡ true → lead_of p many unread l s ≡ lead_from p.sequence l s
    unfolding lead_of
    lead-does = accepted-is leads (on_lead p many unread s)

    pub lead-keeps : accepted (lead_of p many unread l s).said ≡ false → (lead_of p many unread l s).scan ≡ s
    unfolding lead_of
    lead-keeps = scan-keeps leads (on_lead p many unread s)
