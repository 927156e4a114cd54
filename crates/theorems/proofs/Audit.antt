-- THE AUDITOR'S THEOREM: a record number is answered with itself exactly if it is in the column. Assumes nothing.
use Prim.Native.Nat.{ℕ, suc, ◌<◌}
use mathlib.Core.Path.{◌≡◌, refl, sym, ap, ◌∙◌, fun_ext}
use mathlib.Core.Bool.{Bool, true, false}
use mathlib.Core.List.{List, [], ◌∷◌, map}
use mathlib.Core.Option.{some, none}
use mathlib.Core.Logic.{◌↔◌}
use native.Mathlib.Nat.{le_refl}
use borrow.Author.Tests.{le-ltb}
use lib.Dec.{ltb}
use lib.ListN.{length, get_or}
use lib.IntN.{ℤ, pos}
use Rattle.ranges.specs.Ranges.{every, some_of}
use Rattle.ranges.proofs.Bools.{and_left, In}
use Rattle.meaning.specs.Refusals.{Gives}
use Rattle.meaning.specs.Sequence.{Source, rises}
use Rattle.meaning.specs.Column.{Column, size_of, sequence_of, sound, source_of}
use Rattle.bounds.specs.declared.Bound.{Bound}
use Rattle.bounds.specs.declared.Mode.{Mode}
use Rattle.bounds.specs.declared.Mode.TheVariants.{InclusiveWins, ExclusiveWins}
use Rattle.loftsplice.specs.declared.scan.Move.TheVariants.{Next, Seek}
use Rattle.loftsplice.specs.declared.scan.Move.{Move}
use Rattle.loftsplice.specs.Scan.{fresh, new_of, seek_of, says_all}
use Rattle.filter_interval.specs.Filter.{Call, new_filter}
use Rattle.theorems.specs.Exact.{accepted}
use Rattle.theorems.specs.Demand3.{answers, moves, all_lower, all_upper, meets_all, tied, tied_in, counts, expected_from, expected}
use Rattle.theorems.specs.Runs.{scan_answers, anything, rising_window}
use Rattle.theorems.specs.Audit.{Holds, HoldsBetween, ascending_from, ascending, seeks, filled, constant}
use Rattle.theorems.proofs.ColumnCalls.{sound-source}
use Rattle.theorems.proofs.ScanCalls.{new-accepts, new-does}
use Rattle.theorems.proofs.AcceptedRuns.{constant-lower, constant-upper, constant-accepted}
use Rattle.theorems.proofs.Folded.{run-rises}
use Rattle.theorems.proofs.Demand3.{answers-are-expected}
use Rattle.theorems.proofs.ScanRuns.{rising-parts, rising-accepted, scan-answers-are-expected}
use Rattle.theorems.proofs.Seeks.{alone, seeks-alone, seeks-after-next, alone-exactly-if, each, filled-are}

-- ---- any window that rises, of whatever holds a sequence

module _ (p : Source) (start end : ℕ) (rising : rising_window p start end ≡ true) where
  -- each of an ascending list is answered as if it were sought alone
  seeks-are : (ks : List ℤ) → ascending ks ≡ true → seeks p (fresh start end) ks ≡ map (alone p.sequence start end anything) ks
  seeks-are ks h =
      scan-answers-are-expected p start end (map Seek ks) (rising-accepted p start end rising (map Seek ks)) ∙ seeks-alone p.sequence start end anything ks h

  seek_is : (k : ℤ) → (seek_of p k (fresh start end)).said ≡ alone p.sequence start end anything k
  unfolding says_all ascending_from
  seek_is k = let h : ((seek_of p k (fresh start end)).said ∷ []) ≡ (alone p.sequence start end anything k ∷ []) = seeks-are (k ∷ []) refl in cc

  -- "a fresh scan's seek of k answers k exactly if some element of the column is k"
  pub found-exactly-if : (k : ℤ) → ((seek_of p k (fresh start end)).said ≡ Gives (some k)) ↔ Holds p.sequence start end k
  found-exactly-if k =
      let h = alone-exactly-if p.sequence start end anything ((rising-parts p start end).0 rising).2 k in
      (λ e. (h.0 (sym (seek_is k) ∙ e)).0, λ i. seek_is k ∙ h.1 (i, refl))

  -- "when k1 ≤ k2 ≤ .. are sought one after the other on one scan", each is answered as a fresh scan answers it,
  pub one-after-the-other : (ks : List ℤ) → ascending ks ≡ true → seeks p (fresh start end) ks ≡ map (λ k. (seek_of p k (fresh start end)).said) ks
  one-after-the-other ks h = seeks-are ks h ∙ ap (λ answer. map answer ks) (fun_ext (λ (k : ℤ). sym (seek_is k)))

  -- so "each is answered with itself exactly if it is in the column": the j-th answer and the j-th number
  pub each-found-exactly-if : (ks : List ℤ) → ascending ks ≡ true → (j : ℕ) → j < length ks
      → (get_or (seeks p (fresh start end) ks) j (Gives none) ≡ Gives (some (get_or ks j (pos 0)))) ↔ Holds p.sequence start end (get_or ks j (pos 0))
  each-found-exactly-if ks h j l =
      rw (one-after-the-other ks h) (each (λ k. (seek_of p k (fresh start end)).said) (Holds p.sequence start end) found-exactly-if ks j l)

  -- "So the list of filled logs holds all logs that lack the field, and no others."
  pub filled-exactly-if : (ks : List ℤ) → ascending ks ≡ true → (k : ℤ)
      → In k (filled ks (seeks p (fresh start end) ks)) ↔ (In k ks × (Holds p.sequence start end k → ⊥))
  filled-exactly-if ks h k =
      rw (one-after-the-other ks h) (filled-are (λ k. (seek_of p k (fresh start end)).said) (Holds p.sequence start end) found-exactly-if ks k)

-- ---- a column

-- what is said of a window holds of one that rises and ends within a sound column
pub column-window : (c : Column) (start end : ℕ) → sound c ≡ true → ltb (size_of c) end ≡ false → rises (sequence_of c) start end ≡ true
    → rising_window (source_of c) start end ≡ true
column-window c start end h l r = (rising-parts (source_of c) start end).1 (sound-source c ∙ h, l, r)

-- "For a sound, rising presence column and any record number k": all of it, on a new scan
module _ (c : Column) (is-sound : sound c ≡ true) (is-rising : rises (sequence_of c) 0 (size_of c) ≡ true) where
  whole : rising_window (source_of c) 0 (size_of c) ≡ true
  whole = column-window c 0 (size_of c) is-sound (le-ltb (size_of c) (size_of c) (le_refl (size_of c))) is-rising

  pub new-scan : new_of (source_of c) ≡ Gives (fresh 0 (size_of c))
  new-scan = new-does (source_of c) ((new-accepts (source_of c)).1 (sound-source c ∙ is-sound))

  pub column-found-exactly-if : (k : ℤ) → ((seek_of (source_of c) k (fresh 0 (size_of c))).said ≡ Gives (some k)) ↔ Holds (sequence_of c) 0 (size_of c) k
  column-found-exactly-if = found-exactly-if (source_of c) 0 (size_of c) whole

  pub column-each-found-exactly-if : (ks : List ℤ) → ascending ks ≡ true → (j : ℕ) → j < length ks
      → (get_or (seeks (source_of c) (fresh 0 (size_of c)) ks) j (Gives none) ≡ Gives (some (get_or ks j (pos 0)))) ↔ Holds (sequence_of c) 0 (size_of c) (get_or ks j (pos 0))
  column-each-found-exactly-if = each-found-exactly-if (source_of c) 0 (size_of c) whole

  pub column-filled-exactly-if : (ks : List ℤ) → ascending ks ≡ true → (k : ℤ)
      → In k (filled ks (seeks (source_of c) (fresh 0 (size_of c)) ks)) ↔ (In k ks × (Holds (sequence_of c) 0 (size_of c) k → ⊥))
  column-filled-exactly-if = filled-exactly-if (source_of c) 0 (size_of c) whole

-- ---- through a filter, among the elements that meet every bound

-- A new filter with any bounds on a fresh scan, a first call k and calls ks after it, all accepted; no least upper value is given both ways where the
-- inclusive one would win.
module _ (p : Source) (start end : ℕ) (mode : Mode) (lows ups : List Bound) (k : Call) (ks : List Call)
    (all-accepted : every accepted (answers p start end mode lows ups k ks) ≡ true) (no_tie : tied_in mode (all_upper ups k) ≡ false) where
  abbrev meets : ℤ → Bool
  meets = meets_all (all_lower lows k) (all_upper ups k)

  run_is : (ms : List Move) → (counts (all_lower lows k) k.move ∷ moves ks) ≡ ms → answers p start end mode lows ups k ks ≡ expected_from p.sequence end meets start start ms
  unfolding expected
  run_is ms h = answers-are-expected p start end mode lows ups k ks all-accepted no_tie ∙ ap (expected_from p.sequence end meets start start) h

  -- the j-th number, and the j-th of the answers that each would have alone
  each-alone : (xs : List ℤ) (j : ℕ) → j < length xs
      → (get_or (map (alone p.sequence start end meets) xs) j (Gives none) ≡ Gives (some (get_or xs j (pos 0))))
      ↔ HoldsBetween p.sequence start end (all_lower lows k) (all_upper ups k) (get_or xs j (pos 0))
  each-alone = each (alone p.sequence start end meets) (HoldsBetween p.sequence start end (all_lower lows k) (all_upper ups k))
      (alone-exactly-if p.sequence start end meets (run-rises p k ks (new_filter (fresh start end) mode lows ups) all-accepted))

  -- With a lower bound: where all calls are seeks, of x1 ≤ x2 ≤ .., each is answered with itself exactly if it is in the window and meets every bound.
  pub each-given-exactly-if : (xs : List ℤ) → (counts (all_lower lows k) k.move ∷ moves ks) ≡ map Seek xs → ascending xs ≡ true → (j : ℕ) → j < length xs
      → (get_or (answers p start end mode lows ups k ks) j (Gives none) ≡ Gives (some (get_or xs j (pos 0))))
      ↔ HoldsBetween p.sequence start end (all_lower lows k) (all_upper ups k) (get_or xs j (pos 0))
  each-given-exactly-if xs h a j l = rw (run_is (map Seek xs) h ∙ seeks-alone p.sequence start end meets xs a) (each-alone xs j l)

  -- A first call that is a next, or counts as one since there is no lower bound: the same holds of the seeks after it.
  pub each-later-given-exactly-if : (xs : List ℤ) → counts (all_lower lows k) k.move ≡ Next → moves ks ≡ map Seek xs → ascending xs ≡ true → (j : ℕ) → j < length xs
      → (get_or (answers p start end mode lows ups k ks) (suc j) (Gives none) ≡ Gives (some (get_or xs j (pos 0))))
      ↔ HoldsBetween p.sequence start end (all_lower lows k) (all_upper ups k) (get_or xs j (pos 0))
  each-later-given-exactly-if xs n h a j l =
      rw (run_is (Next ∷ map Seek xs) (rw (n, h)) ∙ seeks-after-next p.sequence start end meets xs a) (each-alone xs j l)

-- The same with constant bounds alone: a window that rises, and calls with no variable bound; all of them are accepted.
module _ (p : Source) (start end : ℕ) (rising : rising_window p start end ≡ true) (k : Call) (ks : List Call) (constants : every constant (k ∷ ks) ≡ true) where
  first : constant k ≡ true
  unfolding every
  first = and_left (constant k) (every constant ks) constants

  all-accepted : (mode : Mode) (lows ups : List Bound) → every accepted (answers p start end mode lows ups k ks) ≡ true
  all-accepted mode lows ups = constant-accepted p start end rising mode lows ups k ks constants

  -- with a lower bound
  pub each-between-exactly-if : (mode : Mode) (b : Bound) (bs ups : List Bound) → tied_in mode ups ≡ false
      → (xs : List ℤ) → moves (k ∷ ks) ≡ map Seek xs → ascending xs ≡ true → (j : ℕ) → j < length xs
      → (get_or (answers p start end mode (b ∷ bs) ups k ks) j (Gives none) ≡ Gives (some (get_or xs j (pos 0))))
      ↔ HoldsBetween p.sequence start end (b ∷ bs) ups (get_or xs j (pos 0))
  each-between-exactly-if mode b bs ups t xs h a j l =
      rw (constant-lower k first (b ∷ bs), constant-upper k first ups) at
      (each-given-exactly-if p start end mode (b ∷ bs) ups k ks (all-accepted mode (b ∷ bs) ups) (rw (constant-upper k first ups) t) xs h a j l)

  -- with no lower bound, or a first call that is a next: the seeks after the first call
  pub each-later-between-exactly-if : (mode : Mode) (lows ups : List Bound) → tied_in mode ups ≡ false → counts lows k.move ≡ Next
      → (xs : List ℤ) → moves ks ≡ map Seek xs → ascending xs ≡ true → (j : ℕ) → j < length xs
      → (get_or (answers p start end mode lows ups k ks) (suc j) (Gives none) ≡ Gives (some (get_or xs j (pos 0))))
      ↔ HoldsBetween p.sequence start end lows ups (get_or xs j (pos 0))
  each-later-between-exactly-if mode lows ups t n xs h a j l =
      rw (constant-lower k first lows, constant-upper k first ups) at
      (each-later-given-exactly-if p start end mode lows ups k ks (all-accepted mode lows ups) (rw (constant-upper k first ups) t) xs (rw (constant-lower k first lows) n) h a j l)

  never-tied : (mode : Mode) → tied_in mode [] ≡ false
  unfolding tied some_of
  never-tied InclusiveWins = refl
  never-tied ExclusiveWins = refl

  -- With no bounds at all the filter answers as its scan does, but that its first call counts as a next.
  pub unbounded-as-scan : (mode : Mode) → answers p start end mode [] [] k ks ≡ scan_answers p (fresh start end) (Next ∷ moves ks)
  unfolding expected meets_all every
  unbounded-as-scan mode =
      let low : all_lower [] k ≡ [] = constant-lower k first [] in
      let up : all_upper [] k ≡ [] = constant-upper k first [] in
      answers-are-expected p start end mode [] [] k ks (all-accepted mode [] []) (rw up (never-tied mode))
      ∙ rw (low, up) (sym (scan-answers-are-expected p start end (Next ∷ moves ks) (rising-accepted p start end rising (Next ∷ moves ks))))
