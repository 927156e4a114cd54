-- Runs of calls on one scan: nothing is stepped past, next alone gives every element, and all answer what is expected. Assumes nothing.
use Prim.Native.Nat.{ℕ, suc, ◌≤◌, ◌<◌}
use mathlib.Core.Path.{◌≡◌, refl, ap, ◌∙◌}
use mathlib.Core.Bool.{true, false, not, ◌&&◌}
use mathlib.Core.List.{List, [], ◌∷◌}
use mathlib.Core.Option.{some, none}
use mathlib.Core.Logic.Iff
use mathlib.Core.Logic.{inl, inr, ◌↔◌}
use native.Mathlib.Omega.{arith}
use borrow.Author.Tests.{le-ltb, ltb-false}
use lib.Dec.{ltb}
use lib.ListN.{length}
use lib.IntN.{ℤ}
use lib.Signed.{lt_z}
use Rattle.ranges.specs.Ranges.{every}
use Rattle.ranges.proofs.Bools.{either, and_left, and_right, or-true, every-at, at_every, same_after}
use Rattle.ranges.proofs.Spans.{first-known, first-now}
use Rattle.ranges.proofs.Reading.{reading}
use Rattle.meaning.specs.Refusals.{Gives}
use Rattle.meaning.specs.Sequence.{Sequence, Source, rises, first_not_below, elements_in}
use Rattle.loftsplice.specs.declared.scan.Move.TheVariants.{Next, Seek}
use Rattle.loftsplice.specs.declared.scan.Move.{Move}
use Rattle.loftsplice.specs.declared.scan.State.{State}
use Rattle.loftsplice.specs.declared.scan.State.TheVariants.{Fresh, At, Ended}
use Rattle.loftsplice.specs.declared.scan.Scan.{Scan}
use Rattle.loftsplice.specs.Scan.{Outcome, fresh, put, go_to, next_from, seek_from, bad_scan, seek_of, move_scan, called, Go, says_all}
use Rattle.loftsplice.specs.Listing.{those}
use Rattle.theorems.specs.Exact.{accepted, sound_source}
use Rattle.theorems.specs.Demand3.{earliest, answer_at, expected_from}
use Rattle.theorems.specs.Runs.{scan_answers, is_next, allowed_scan, rising_window, listing, standing, anything}
use Rattle.theorems.proofs.ScanCalls.{seek-keeps, move-accepts, move-does, move-keeps}
use Rattle.theorems.proofs.Moves.{Landing, Restricted, fresh-restricted, restricted-bad, move-restricted}
use Rattle.theorems.proofs.DocComments.{sought-lands, seek_finds}
use Rattle.theorems.proofs.Expected.{nexts-list}

-- ---- nothing is stepped past

-- No seek, on any scan, steps past an element that is not below its target: no index from where the scan stood to where it stands has one.
pub nothing-is-stepped-past : (p : Source) (x : ℤ) (s : Scan) (i : ℕ) → standing s ≤ i → i < standing (seek_of p x s).scan → lt_z (p.sequence.at i) x ≡ true
nothing-is-stepped-past p x s i l h =
    either (accepted (seek_of p x s).said) (λ t. by (sought-lands p s x t)) (λ t. let g : i < standing s = rw (seek-keeps p s x t) at h in absurd (omega arith))
  where
    by : Landing p.sequence x s (standing s) (seek_of p x s) → lt_z (p.sequence.at i) x ≡ true
    by (inl g) = g.first i l (rw g.arrives at h)
    by (inr g) = g.below i l (rw g.ends at h)

-- And what it gives is not below its target.
pub what-a-seek-gives : (p : Source) (x : ℤ) (s : Scan) (v : ℤ) → (seek_of p x s).said ≡ Gives (some v) → lt_z v x ≡ false
what-a-seek-gives p x s v h = (seek_finds p s x v h).4

-- ---- which runs are accepted

module _ (p : Source) (s e : ℕ) where
  allowed-alike : (m : Move) (c : Scan) → Restricted p.sequence s e c → allowed_scan p m c ≡ allowed_scan p m (fresh s e)
  unfolding allowed_scan
  allowed-alike m c r =
      rw (restricted-bad p.sequence c r, r.same_start, r.same_end, restricted-bad p.sequence (fresh s e) (fresh-restricted p.sequence s e))

  -- on a scan that keeps to a window each call is accepted as it would be on a fresh one
  pub run-accepted : (ms : List Move) (c : Scan) → Restricted p.sequence s e c → every accepted (scan_answers p c ms) ≡ every (λ m. allowed_scan p m (fresh s e)) ms
  unfolding every says_all
  run-accepted [] c r = refl
  run-accepted (m ∷ ms) c r =
      rw (move-accepts p c m ∙ allowed-alike m c r)
      (ap (λ t. allowed_scan p m (fresh s e) && t) (run-accepted ms (called p (Go m) c).scan next))
    where
      next : Restricted p.sequence s e (called p (Go m) c).scan
      next = either (accepted (called p (Go m) c).said) (λ t. rw (move-does p c m t) (move-restricted p.sequence c m r)) (λ t. rw (move-keeps p c m t) r)

  -- A run on a fresh scan is accepted exactly if each of its calls is allowed on the fresh scan.
  pub run-accepted-exactly-if : (ms : List Move) → every accepted (scan_answers p (fresh s e) ms) ≡ every (λ m. allowed_scan p m (fresh s e)) ms
  run-accepted-exactly-if ms = run-accepted ms (fresh s e) (fresh-restricted p.sequence s e)

-- what a window that rises tells
pub rising-parts : (p : Source) (s e : ℕ) → (rising_window p s e ≡ true) ↔ ((sound_source p ≡ true) × (ltb p.sequence.size e ≡ false) × (rises p.sequence s e ≡ true))
unfolding rising_window
rising-parts p s e = simp reading Iff.rfl

-- So every run is, over a window that rises.
pub rising-accepted : (p : Source) (s e : ℕ) → rising_window p s e ≡ true → (ms : List Move) → every accepted (scan_answers p (fresh s e) ms) ≡ true
unfolding allowed_scan bad_scan
rising-accepted p s e h ms =
    let w = (rising-parts p s e).0 h in
    run-accepted-exactly-if p s e ms ∙ at_every (λ m. allowed_scan p m (fresh s e)) ms (λ m i. rw (w.0, w.1, w.2, or-true (is_next m)))

-- ---- what they answer

-- a scan in state t, whose next looks from a on and whose seek looks from b on
abbrev Stands : ℕ → ℕ → State → ℕ → ℕ → Type 0
Stands s e Fresh a b = (a ≡ s) × (b ≡ s)
Stands s e (At i) a b = (a ≡ suc i) × (b ≡ i)
Stands s e Ended a b = (e ≤ a) × (e ≤ b)

module _ (q : Sequence) (s e : ℕ) where
  -- what a move comes to: the answer at index j, and a scan that stands there
  abbrev Comes : Outcome → ℕ → Type 0
  Comes o j = (t : State) × (o ≡ record { scan = put q (fresh s e) t; said = answer_at q e j }) × Stands s e t (suc j) j

  lands : (t : State) (j : ℕ) → Comes (go_to q (put q (fresh s e) t) j) j
  unfolding go_to answer_at
  lands t j = either (ltb j e) (λ h. (At j, rw h, (refl, refl))) (λ h. let l : e ≤ j = ltb-false j e h in (Ended, rw h, (omega arith, l)))

  ends : (j : ℕ) → e ≤ j → Comes (record { scan = put q (fresh s e) Ended; said = Gives none }) j
  unfolding answer_at
  ends j l = (Ended, rw (le-ltb j e l), (omega arith, l))

  comes : (m : Move) (t : State) (a b : ℕ) → Stands s e t a b → Comes (move_scan q m (put q (fresh s e) t)) (earliest q e anything a b m)
  unfolding next_from seek_from earliest
  comes Next Fresh a b h = rw (first-now (λ i. anything (q.at i)) a e (λ l. refl), h.0) (lands Fresh s)
  comes Next (At i) a b h = rw (first-now (λ i. anything (q.at i)) a e (λ l. refl), h.0) (lands (At i) (suc i))
  comes Next Ended a b h = rw (first-now (λ i. anything (q.at i)) a e (λ l. refl)) (ends a h.0)
  comes (Seek x) Fresh a b h = rw h.1 (lands Fresh (first_not_below q x s e))
  comes (Seek x) (At i) a b h = rw h.1 (lands (At i) (first_not_below q x i e))
  comes (Seek x) Ended a b h = ends (first_not_below q x b e) (omega (arith, h.1, (first-known (λ i. not (lt_z (q.at i) x)) b e).from))

run-answers : (p : Source) (s e : ℕ) (ms : List Move) (t : State) (a b : ℕ) → Stands s e t a b
    → every accepted (scan_answers p (put p.sequence (fresh s e) t) ms) ≡ true
    → scan_answers p (put p.sequence (fresh s e) t) ms ≡ expected_from p.sequence e anything a b ms
unfolding every says_all expected_from
run-answers p s e [] t a b h acc = refl
run-answers p s e (m ∷ ms) t a b h acc =
    let c = put p.sequence (fresh s e) t in
    let w = comes p.sequence s e m t a b h in
    let j = earliest p.sequence e anything a b m in
    let o : called p (Go m) c ≡ record { scan = put p.sequence (fresh s e) w.0; said = answer_at p.sequence e j }
    = move-does p c m (and_left (accepted (called p (Go m) c).said) (every accepted (scan_answers p (called p (Go m) c).scan ms)) acc) ∙ w.1 in
    rw o (same_after (answer_at p.sequence e j) (run-answers p s e ms w.0 (suc j) j w.2
    (rw o at (and_right (accepted (called p (Go m) c).said) (every accepted (scan_answers p (called p (Go m) c).scan ms)) acc))))

-- Each call on a fresh scan answers the earliest element of the window after the last one given (for a seek: at or after it, and not below the target);
-- none exactly if there is no such element. Here the window need not rise.
pub scan-answers-are-expected : (p : Source) (start end : ℕ) (ms : List Move) → every accepted (scan_answers p (fresh start end) ms) ≡ true
    → scan_answers p (fresh start end) ms ≡ expected_from p.sequence end anything start start ms
scan-answers-are-expected p start end ms acc = run-answers p start end ms Fresh start start (refl, refl) acc

-- ---- next alone

all-those : (xs : List ℤ) → those anything xs ≡ xs
unfolding those
all-those [] = refl
all-those (x ∷ xs) = same_after x (all-those xs)

next-allowed : (p : Source) (s e : ℕ) → sound_source p ≡ true → ltb p.sequence.size e ≡ false → (m : Move) → is_next m ≡ true → allowed_scan p m (fresh s e) ≡ true
unfolding allowed_scan bad_scan
next-allowed p s e g l m h = rw (g, l, h)

-- Next alone, on a fresh scan of any window of a sound column, gives every element of the window once, in order, and then none for ever.
pub next-alone-gives-all : (p : Source) (start end : ℕ) → sound_source p ≡ true → ltb p.sequence.size end ≡ false → (ms : List Move) → every is_next ms ≡ true
    → scan_answers p (fresh start end) ms ≡ listing (length ms) (elements_in p.sequence start end)
next-alone-gives-all p start end g l ms h =
    scan-answers-are-expected p start end ms
    (run-accepted-exactly-if p start end ms ∙ at_every (λ m. allowed_scan p m (fresh start end)) ms (λ m i. next-allowed p start end g l m (every-at is_next ms m h i)))
    ∙ nexts-list p.sequence end anything start start ms h ∙ ap (listing (length ms)) (all-those (elements_in p.sequence start end))
