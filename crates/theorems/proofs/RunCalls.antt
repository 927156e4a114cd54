-- A run of calls in one call: refused exactly if; equal to the single calls one after the other; cut in two; demand 3 and the auditor's theorem of one
-- call. Assumes nothing.
use Prim.Native.Nat.{ℕ, zero, suc, ◌+◌, ◌≤◌, ◌<◌}
use mathlib.Core.Path.{◌≡◌, refl, sym, ap, ◌∙◌}
use mathlib.Core.Bool.{true, false, ◌||◌}
use mathlib.Core.List.{List, [], ◌∷◌, ◌++◌, map, map-append}
use mathlib.Core.Logic.Iff
use mathlib.Core.Logic.{⊎_elim, ◌↔◌}
use mathlib.Core.Option.{Option, some, none}
use native.Mathlib.Omega.{arith}
use native.Mathlib.Nat.{le_refl, zero-add}
use lib.Dec.{ltb}
use lib.IntN.{ℤ, pos}
use lib.ListN.{length, get_or}
use Rattle.ranges.specs.Ranges.{every, some_of}
use Rattle.ranges.proofs.Bools.{and_left, and_right, In, same_after}
use Rattle.ranges.proofs.Reading.{reading}
use Rattle.ranges.proofs.Spans.{first-known, lt-or-ge}
use Rattle.meaning.specs.declared.Refusal.TheVariants.{Order, Room}
use Rattle.meaning.specs.Refusals.{Said, Gives, Number}
use Rattle.meaning.specs.Sequence.{Sequence, Source, rises}
use Rattle.meaning.specs.Column.{Column, source_of}
use Rattle.loftsplice.specs.declared.scan.Move.{Move}
use Rattle.loftsplice.specs.declared.scan.Move.TheVariants.{Next, Seek}
use Rattle.loftsplice.specs.declared.scan.State.TheVariants.{At, Ended}
use Rattle.loftsplice.specs.declared.scan.Scan.{Scan}
use Rattle.loftsplice.specs.Scan.{Outcome, fresh, put, bad_scan, on_scan, on_rising, move_scan, called, Go, says_all, left_by}
use Rattle.loftsplice.specs.Running.{Run, Tally, still, run_from, nexts, nexts_from, seeks_from, counted, refuse_run, next_run_of, on_seeks, seek_run_of, footing_of}
use Rattle.loftsplice.proofs.RunCases.{aim, run_more, run_none, move-goes}
use Rattle.theorems.specs.Exact.{earlier, accepted, sound_source}
use Rattle.theorems.specs.Demand3.{expected_from}
use Rattle.theorems.specs.Runs.{scan_answers, AsCalls, answers_in, is_next, allowed_scan, rising_window, listing, anything}
use Rattle.theorems.specs.Audit.{Holds, ascending, filled}
use Rattle.theorems.proofs.Exactly.{Speaks, plainly, exact, accepted-exactly, refused-is, accepted-is, OfScan, scan-tests}
use Rattle.theorems.proofs.ScanCalls.{scan-refuses, scan-accepts, move-does}
use Rattle.theorems.proofs.Moves.{reached, over, to_inside, to_end, Restricted, unmoved, restricted-bad, move-restricted}
use Rattle.theorems.proofs.ScanRuns.{run-accepted, rising-parts, scan-answers-are-expected}
use Rattle.theorems.proofs.Audit.{each-found-exactly-if, filled-exactly-if}

-- ---- refused exactly if

module _ (p : Source) (s : Scan) where
  -- a run's answer is the scan after it, and the number of values
  tallies : (r : Run) → Speaks (λ (t : Tally). t.said) (refuse_run s) (counted r)
  tallies r = record { refuses = λ n. refl; accepts = refl }

  module _ (places : ℕ) where
    pub next-run-refuses : OfScan p s (next_run_of p places s).said
    unfolding next_run_of
    next-run-refuses = scan-refuses p s (tallies (nexts_from p.sequence places s))

    -- never 10: there is a place for each value
    pub next-run-accepts : (accepted (next_run_of p places s).said ≡ true) ↔ ((sound_source p ≡ true) × (bad_scan p.sequence s ≡ false))
    unfolding next_run_of
    next-run-accepts = scan-accepts p s (tallies (nexts_from p.sequence places s))

    pub next-run-does : accepted (next_run_of p places s).said ≡ true → next_run_of p places s ≡ counted (nexts_from p.sequence places s)
    unfolding next_run_of
    next-run-does = accepted-is (tallies (nexts_from p.sequence places s)) (on_scan p s)

    pub next-run-keeps : accepted (next_run_of p places s).said ≡ false → (next_run_of p places s).scan ≡ s
    unfolding next_run_of
    next-run-keeps h = ap (λ (t : Tally). t.scan) (refused-is (tallies (nexts_from p.sequence places s)) (on_scan p s) h).1

  module _ (targets : List ℤ) (places : ℕ) where
    abbrev many : ℕ
    many = length (seeks_from p.sequence targets s).values

    sought : Speaks (λ (t : Tally). t.said) (refuse_run s) (counted (seeks_from p.sequence targets s))
    sought = tallies (seeks_from p.sequence targets s)

    pub seek-run-refuses : OfScan p s (seek_run_of p targets places s).said
    unfolding seek_run_of
    seek-run-refuses = scan-tests sought (on_seeks p targets places s) p refl refl refl s refl

    pub seek-run-refuses-7 : ((seek_run_of p targets places s).said ≡ Number 7)
        ↔ ((sound_source p ≡ true) × (bad_scan p.sequence s ≡ false) × (rises p.sequence s.start s.end ≡ false))
    unfolding seek_run_of some_of earlier sound_source
    seek-run-refuses-7 = Iff.trans (exact sought (on_seeks p targets places s) Order refl) (simp reading Iff.rfl)

    -- "then 10 where `out` has fewer places than there are values"
    pub seek-run-refuses-10 : ((seek_run_of p targets places s).said ≡ Number 10)
        ↔ ((sound_source p ≡ true) × (bad_scan p.sequence s ≡ false) × (rises p.sequence s.start s.end ≡ true) × (places < many))
    unfolding seek_run_of some_of earlier sound_source
    seek-run-refuses-10 = Iff.trans (exact sought (on_seeks p targets places s) Room refl) (simp reading Iff.rfl)

    pub seek-run-accepts : (accepted (seek_run_of p targets places s).said ≡ true)
        ↔ ((sound_source p ≡ true) × (bad_scan p.sequence s ≡ false) × (rises p.sequence s.start s.end ≡ true) × (many ≤ places))
    unfolding seek_run_of sound_source
    seek-run-accepts = Iff.trans (accepted-exactly sought (on_seeks p targets places s)) (simp reading Iff.rfl)

    pub seek-run-does : accepted (seek_run_of p targets places s).said ≡ true → seek_run_of p targets places s ≡ counted (seeks_from p.sequence targets s)
    unfolding seek_run_of
    seek-run-does = accepted-is sought (on_seeks p targets places s)

    pub seek-run-keeps : accepted (seek_run_of p targets places s).said ≡ false → (seek_run_of p targets places s).scan ≡ s
    unfolding seek_run_of
    seek-run-keeps h = ap (λ (t : Tally). t.scan) (refused-is sought (on_seeks p targets places s) h).1

-- where a run of seeks begins is refused as a seek is
module _ (c : Column) (s : Scan) where
  pub footing-refuses : OfScan (source_of c) s (footing_of c s)
  unfolding footing_of
  footing-refuses = scan-tests (plainly _) (on_rising (source_of c) s) (source_of c) refl refl refl s refl

  pub footing-refuses-7 : (footing_of c s ≡ Number 7)
      ↔ ((sound_source (source_of c) ≡ true) × (bad_scan (source_of c).sequence s ≡ false) × (rises (source_of c).sequence s.start s.end ≡ false))
  unfolding footing_of some_of earlier sound_source
  footing-refuses-7 = Iff.trans (exact (plainly _) (on_rising (source_of c) s) Order refl) (simp reading Iff.rfl)

-- ---- the values and the scan

module _ (q : Sequence) where
  ended-past : (m : Move) (s : Scan) → s.end ≤ aim q m (put q s Ended)
  ended-past Next s = le_refl _
  ended-past (Seek x) s = (first-known _ s.end s.end).from

  -- once it has ended, a run stays there
  pub run-stays : (ms : List Move) (s : Scan) → run_from q ms (put q s Ended) ≡ still (put q s Ended)
  unfolding run_from
  run-stays [] s = refl
  run-stays (m ∷ ms) s = run_none q m ms (put q s Ended) (aim q m (put q s Ended)) refl (ended-past m s)

  -- A run cut in two is the run, also where the first part stops at a none.
  pub run-cut : (ms ns : List Move) (s : Scan) → let r = run_from q ms s in
      run_from q (ms ++ ns) s ≡ record { scan = (run_from q ns r.scan).scan; values = r.values ++ (run_from q ns r.scan).values }
  unfolding run_from
  run-cut [] ns s = refl
  run-cut (m ∷ ms) ns s = ⊎_elim
      (λ (g : aim q m s < s.end). rw (run_more q m (ms ++ ns) s (aim q m s) refl g, run_more q m ms s (aim q m s) refl g, run-cut ms ns (put q s (At (aim q m s)))))
      (λ (g : s.end ≤ aim q m s). rw (run_none q m (ms ++ ns) s (aim q m s) refl g, run_none q m ms s (aim q m s) refl g, run-stays ns s))
      (lt-or-ge (aim q m s) s.end)

  nexts-join : (m n : ℕ) → nexts (m + n) ≡ nexts m ++ nexts n
  unfolding nexts
  nexts-join zero n = rw zero-add
  nexts-join (suc m) n = let e : suc m + n ≡ suc (m + n) = omega arith in rw e (same_after Next (nexts-join m n))

  -- so are nexts of m and n places, and seeks of two lists of targets
  pub nexts-cut : (m n : ℕ) (s : Scan) → let r = nexts_from q m s in
      nexts_from q (m + n) s ≡ record { scan = (nexts_from q n r.scan).scan; values = r.values ++ (nexts_from q n r.scan).values }
  nexts-cut m n s = ap (λ ms. run_from q ms s) (nexts-join m n) ∙ run-cut (nexts m) (nexts n) s

  pub seeks-cut : (xs ys : List ℤ) (s : Scan) → let r = seeks_from q xs s in
      seeks_from q (xs ++ ys) s ≡ record { scan = (seeks_from q ys r.scan).scan; values = r.values ++ (seeks_from q ys r.scan).values }
  seeks-cut xs ys s = ap (λ ms. run_from q ms s) (map-append Seek xs ys) ∙ run-cut (map Seek xs) (map Seek ys) s

  -- there are no more values than calls: a place for each target is enough
  pub values-few : (ms : List Move) (s : Scan) → length (run_from q ms s).values ≤ length ms
  unfolding run_from
  values-few [] s = le_refl _
  values-few (m ∷ ms) s = ⊎_elim
      (λ (g : aim q m s < s.end). rw (run_more q m ms s (aim q m s) refl g) (omega (arith, values-few ms (put q s (At (aim q m s))))))
      (λ (g : s.end ≤ aim q m s). rw (run_none q m ms s (aim q m s) refl g) (omega arith))
      (lt-or-ge (aim q m s) s.end)

  -- A run keeps a scan to its window, and carries the element that it stands on: request 8's invariant.
  run-restricted : {start end : ℕ} (ms : List Move) (s : Scan) → Restricted q start end s → Restricted q start end (run_from q ms s).scan
  unfolding run_from
  run-restricted [] s r = r
  run-restricted (m ∷ ms) s r = ⊎_elim
      (λ (g : aim q m s < s.end).
      let o : move_scan q m s ≡ reached q s (aim q m s) = move-goes q m s ∙ to_inside q s (aim q m s) g in
      rw (run_more q m ms s (aim q m s) refl g) (run-restricted ms (put q s (At (aim q m s))) (rw o at (move-restricted q s m r))))
      (λ (g : s.end ≤ aim q m s).
      let o : move_scan q m s ≡ over q s = move-goes q m s ∙ to_end q s (aim q m s) g in
      rw (run_none q m ms s (aim q m s) refl g) (rw o at (move-restricted q s m r)))
      (lt-or-ge (aim q m s) s.end)

  pub run_sound : (ms : List Move) (s : Scan) → bad_scan q s ≡ false → bad_scan q (run_from q ms s).scan ≡ false
  run_sound ms s good = restricted-bad q (run_from q ms s).scan (run-restricted ms s (unmoved q s good)) ∙ sym (restricted-bad q s (unmoved q s good)) ∙ good

-- ---- the single calls one after the other

module _ (p : Source) where
  abbrev q : Sequence
  q = p.sequence

  goes : (m : Move) (s : Scan) → accepted (called p (Go m) s).said ≡ true → (o : Outcome) → move_scan q m s ≡ o → called p (Go m) s ≡ o
  goes m s h o e = move-does p s m h ∙ e

  pub run-as-calls : (ms : List Move) (s : Scan) → every accepted (scan_answers p s ms) ≡ true → AsCalls p ms s (run_from q ms s)
  unfolding every says_all left_by listing run_from
  run-as-calls [] s h = (refl, refl)
  run-as-calls (m ∷ ms) s h = ⊎_elim
      (λ (g : aim q m s < s.end).
      let o : called p (Go m) s ≡ reached q s (aim q m s) = goes m s first _ (move-goes q m s ∙ to_inside q s (aim q m s) g) in
      let r = run-as-calls ms (put q s (At (aim q m s))) (rw o at rest) in
      let e = sym (run_more q m ms s (aim q m s) refl g) in
      (answers o ∙ same_after (Gives (some (q.at (aim q m s)))) r.0 ∙ ap (λ (w : Run). listing (suc (length ms)) w.values) e, leaves o ∙ r.1 ∙ ap (λ (w : Run). w.scan) e))
      (λ (g : s.end ≤ aim q m s).
      let o : called p (Go m) s ≡ over q s = goes m s first _ (move-goes q m s ∙ to_end q s (aim q m s) g) in
      let r = run-as-calls ms (put q s Ended) (rw o at rest) in
      let e = sym (run_none q m ms s (aim q m s) refl g) in
      let w = run-stays q ms s in (
        answers o ∙ same_after (Gives none) (r.0 ∙ ap (λ (v : Run). listing (length ms) v.values) w) ∙ ap (λ (w : Run). listing (suc (length ms)) w.values) e,
        leaves o ∙ r.1 ∙ ap (λ (v : Run). v.scan) w ∙ ap (λ (w : Run). w.scan) e,
      ))
      (lt-or-ge (aim q m s) s.end)
    where
      first : accepted (called p (Go m) s).said ≡ true
      first = and_left (accepted (called p (Go m) s).said) (every accepted (scan_answers p (called p (Go m) s).scan ms)) h

      -- by what the first call comes to
      answers : {o : Outcome} → called p (Go m) s ≡ o → says_all p s (map Go (m ∷ ms)) ≡ (o.said ∷ says_all p o.scan (map Go ms))
      answers e = ap (λ (u : Outcome). u.said ∷ says_all p u.scan (map Go ms)) e

      leaves : {o : Outcome} → called p (Go m) s ≡ o → left_by p s (map Go (m ∷ ms)) ≡ left_by p o.scan (map Go ms)
      leaves e = ap (λ (u : Outcome). left_by p u.scan (map Go ms)) e

      rest : every accepted (scan_answers p (called p (Go m) s).scan ms) ≡ true
      rest = and_right (accepted (called p (Go m) s).said) (every accepted (scan_answers p (called p (Go m) s).scan ms)) h

  -- each call of an accepted run is accepted, since the window and the goodness of the scan stay
  allowed : (m : Move) (start end : ℕ) → sound_source p ≡ true → ltb q.size end ≡ false → (is_next m || rises q start end) ≡ true → allowed_scan p m (fresh start end) ≡ true
  unfolding allowed_scan bad_scan
  allowed m start end g l h = rw (g, l, h)

  module _ (s : Scan) (g : sound_source p ≡ true) (good : bad_scan q s ≡ false) where
    within : ltb q.size s.end ≡ false
    within = sym (restricted-bad q s (unmoved q s good)) ∙ good

    calls-accepted : (ms : List Move) → every (λ m. allowed_scan p m (fresh s.start s.end)) ms ≡ true → every accepted (scan_answers p s ms) ≡ true
    calls-accepted ms h = run-accepted p s.start s.end ms s (unmoved q s good) ∙ h

    pub nexts-accepted : (n : ℕ) → every accepted (scan_answers p s (nexts n)) ≡ true
    unfolding every nexts
    nexts-accepted n = calls-accepted (nexts n) (all n)
      where
        all : (n : ℕ) → every (λ m. allowed_scan p m (fresh s.start s.end)) (nexts n) ≡ true
        all zero = refl
        all (suc n) = rw (allowed Next s.start s.end g within refl) (all n)

    pub seeks-accepted : rises q s.start s.end ≡ true → (xs : List ℤ) → every accepted (scan_answers p s (map Seek xs)) ≡ true
    unfolding every
    seeks-accepted up xs = calls-accepted (map Seek xs) (all xs)
      where
        all : (xs : List ℤ) → every (λ m. allowed_scan p m (fresh s.start s.end)) (map Seek xs) ≡ true
        all [] = refl
        all (x ∷ xs) = rw (allowed (Seek x) s.start s.end g within up) (all xs)

  -- THE EQUATION WITH SINGLE CALLS: on any scan, for any places and any targets.
  pub next-run-as-calls : (s : Scan) (places : ℕ) → accepted (next_run_of p places s).said ≡ true → AsCalls p (nexts places) s (nexts_from q places s)
  next-run-as-calls s places h =
      let w = (next-run-accepts p s places).0 h in
      run-as-calls (nexts places) s (nexts-accepted s w.0 w.1 places)

  pub seek-run-as-calls : (s : Scan) (targets : List ℤ) (places : ℕ) → accepted (seek_run_of p targets places s).said ≡ true → AsCalls p (map Seek targets) s (seeks_from q targets s)
  seek-run-as-calls s targets places h =
      let w = (seek-run-accepts p s targets places).0 h in
      run-as-calls (map Seek targets) s (seeks-accepted s w.0 w.1 w.2 targets)

  -- ---- demand 3, of one call on a fresh scan

  module _ (start end : ℕ) where
    pub next-run-expected : (places : ℕ) → accepted (next_run_of p places (fresh start end)).said ≡ true
        → listing (length (nexts places)) (nexts_from q places (fresh start end)).values ≡ expected_from q end anything start start (nexts places)
    next-run-expected places h =
        let w = (next-run-accepts p (fresh start end) places).0 h in
        sym (next-run-as-calls (fresh start end) places h).0
        ∙ scan-answers-are-expected p start end (nexts places) (nexts-accepted (fresh start end) w.0 w.1 places)

    pub seek-run-expected : (targets : List ℤ) (places : ℕ) → accepted (seek_run_of p targets places (fresh start end)).said ≡ true
        → listing (length (map Seek targets)) (seeks_from q targets (fresh start end)).values ≡ expected_from q end anything start start (map Seek targets)
    seek-run-expected targets places h =
        let w = (seek-run-accepts p (fresh start end) targets places).0 h in
        sym (seek-run-as-calls (fresh start end) targets places h).0
        ∙ scan-answers-are-expected p start end (map Seek targets) (seeks-accepted (fresh start end) w.0 w.1 w.2 targets)

    -- ---- the auditor's theorem, of one call: targets in rising order

    module _ (ks : List ℤ) (places : ℕ) (given : accepted (seek_run_of p ks places (fresh start end)).said ≡ true) (up : ascending ks ≡ true) where
      abbrev answered : List (Said (Option ℤ))
      answered = answers_in ks (seeks_from q ks (fresh start end))

      seeks-long : (xs : List ℤ) → length (map Seek xs) ≡ length xs
      seeks-long [] = refl
      seeks-long (x ∷ xs) = ap suc (seeks-long xs)

      as-sought : scan_answers p (fresh start end) (map Seek ks) ≡ answered
      as-sought = rw (seeks-long ks) at (seek-run-as-calls (fresh start end) ks places given).0

      window : rising_window p start end ≡ true
      window =
          let w = (seek-run-accepts p (fresh start end) ks places).0 given in
          (rising-parts p start end).1 (w.0, within (fresh start end) w.0 w.1, w.2)

      -- Target j is answered with itself exactly if it is one of the window's elements;
      pub seek-run-found-exactly-if : (j : ℕ) → j < length ks
          → (get_or answered j (Gives none) ≡ Gives (some (get_or ks j (pos 0)))) ↔ Holds q start end (get_or ks j (pos 0))
      seek-run-found-exactly-if j l = rw as-sought at (each-found-exactly-if p start end window ks up j l)

      -- and those that are answered otherwise, or not at all, are the filled logs: all that lack the field, and no others.
      pub seek-run-filled-exactly-if : (k : ℤ) → In k (filled ks answered) ↔ (In k ks × (Holds q start end k → ⊥))
      seek-run-filled-exactly-if k = rw as-sought at (filled-exactly-if p start end window ks up k)
