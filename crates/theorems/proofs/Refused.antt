-- What a refused search means for the list of filled logs: on a rising presence column there is none, `no-refusal-fills`. Assumes nothing.
--
-- `filled` reads a refused answer as "not found". So whoever fills must stop at a refusal; here is why, and that none can be given where the column rises.
use Prim.Native.Nat.{ℕ}
use mathlib.Core.Path.{◌≡◌, refl, sym, ap, ◌∙◌}
use mathlib.Core.Bool.{true, false}
use mathlib.Core.List.{List, [], ◌∷◌, map}
use mathlib.Core.Option.{Option}
use native.Mathlib.Nat.{le_refl}
use borrow.Author.Tests.{le-ltb}
use lib.Dec.{ltb}
use lib.IntN.{ℤ}
use Rattle.ranges.specs.Ranges.{every}
use Rattle.ranges.proofs.Bools.{either, and_left, and_right, same_after}
use Rattle.meaning.specs.Refusals.{Said, Number}
use Rattle.meaning.specs.Sequence.{Source, rises}
use Rattle.meaning.specs.Column.{Column, size_of, sequence_of, sound, source_of}
use Rattle.loftsplice.specs.declared.scan.Move.TheVariants.{Seek}
use Rattle.loftsplice.specs.Lead.{found}
use Rattle.loftsplice.specs.Scan.{fresh, bad_scan, seek_of, says_all}
use Rattle.theorems.specs.Exact.{accepted, sound_source}
use Rattle.theorems.specs.Runs.{allowed_scan, rising_window}
use Rattle.theorems.specs.Audit.{seeks, filled}
use Rattle.theorems.specs.Answered.{refused_of, sevens, answered_otherwise}
use Rattle.theorems.proofs.ScanCalls.{seek-refuses-7, seek-keeps}
use Rattle.theorems.proofs.Moves.{fresh-restricted, restricted-bad}
use Rattle.theorems.proofs.ScanRuns.{run-accepted-exactly-if, rising-accepted}
use Rattle.theorems.proofs.Audit.{column-window}

-- ---- any answers

-- a refused search fills its log, whether or not the column has it
pub refusal-fills : (k : ℤ) (n : ℕ) (ks : List ℤ) (answers : List (Said (Option ℤ))) → filled (k ∷ ks) (Number n ∷ answers) ≡ (k ∷ filled ks answers)
unfolding filled
refusal-fills k n ks answers = refl

-- where all are accepted no search was refused,
none-refused : (ks : List ℤ) (answers : List (Said (Option ℤ))) → every accepted answers ≡ true → refused_of ks answers ≡ []
unfolding refused_of every
none-refused [] answers h = refl
none-refused (k ∷ ks) [] h = refl
none-refused (k ∷ ks) (a ∷ answers) h =
    rw (and_left (accepted a) (every accepted answers) h) (none-refused ks answers (and_right (accepted a) (every accepted answers) h))

-- and the filled ones are those that were answered otherwise than with themselves
filled-answered : (ks : List ℤ) (answers : List (Said (Option ℤ))) → every accepted answers ≡ true → filled ks answers ≡ answered_otherwise ks answers
unfolding filled answered_otherwise every
filled-answered [] answers h = refl
filled-answered (k ∷ ks) [] h = refl
filled-answered (k ∷ ks) (a ∷ answers) h =
    let yes = and_left (accepted a) (every accepted answers) h in
    let rest = filled-answered ks answers (and_right (accepted a) (every accepted answers) h) in
    either (found k a) (λ t. rw (yes, t) rest) (λ t. rw (yes, t) (same_after k rest))

-- ---- a run of searches on a fresh scan

module _ (p : Source) (start end : ℕ) where
  allowed-seek : (x : ℤ) → allowed_scan p (Seek x) (fresh start end) ≡ rising_window p start end
  unfolding allowed_scan rising_window
  allowed-seek x = rw (restricted-bad p.sequence (fresh start end) (fresh-restricted p.sequence start end))

  -- A run of searches is accepted throughout exactly if the window rises and ends within a sound column: it depends on neither the numbers nor their order.
  pub searches-accepted-exactly-if : (k : ℤ) (ks : List ℤ) → every accepted (seeks p (fresh start end) (k ∷ ks)) ≡ rising_window p start end
  unfolding every
  searches-accepted-exactly-if k ks =
      either (rising_window p start end)
      (λ t. rising-accepted p start end t (map Seek (k ∷ ks)) ∙ sym t)
      (λ t. run-accepted-exactly-if p start end (map Seek (k ∷ ks)) ∙ rw (allowed-seek k, t))

  -- THE REASON. Over a window that rises no search is refused, so no log is filled by a refusal: "the list of filled logs" is the list of those that
  -- were answered otherwise than with themselves.
  pub no-search-refused : rising_window p start end ≡ true → (ks : List ℤ) → every accepted (seeks p (fresh start end) ks) ≡ true
  no-search-refused rising ks = rising-accepted p start end rising (map Seek ks)

  pub no-refusal-fills : rising_window p start end ≡ true → (ks : List ℤ)
      → (refused_of ks (seeks p (fresh start end) ks) ≡ []) × (filled ks (seeks p (fresh start end) ks) ≡ answered_otherwise ks (seeks p (fresh start end) ks))
  no-refusal-fills rising ks =
      let answers = seeks p (fresh start end) ks in
      (none-refused ks answers (no-search-refused rising ks), filled-answered ks answers (no-search-refused rising ks))

  -- Over a window that does not rise every search is refused 7, and would fill its log.
  module _ (is-sound : sound_source p ≡ true) (inside : ltb p.sequence.size end ≡ false) (falls : rises p.sequence start end ≡ false) where
    refused-7 : (k : ℤ) → (seek_of p k (fresh start end)).said ≡ Number 7
    unfolding bad_scan
    refused-7 k = (seek-refuses-7 p (fresh start end) k).1 (is-sound, rw inside, falls)

    pub falling-refuses-all : (ks : List ℤ) → seeks p (fresh start end) ks ≡ sevens ks
    unfolding says_all
    falling-refuses-all [] = refl
    falling-refuses-all (k ∷ ks) =
        rw (refused-7 k, seek-keeps p (fresh start end) k (ap accepted (refused-7 k))) (same_after (Number 7) (falling-refuses-all ks))

    pub falling-would-fill-all : (ks : List ℤ) → filled ks (seeks p (fresh start end) ks) ≡ ks
    unfolding filled
    falling-would-fill-all ks = ap (filled ks) (falling-refuses-all ks) ∙ all ks
      where
        all : (ks : List ℤ) → filled ks (sevens ks) ≡ ks
        all [] = refl
        all (k ∷ ks) = same_after k (all ks)

-- "For a sound, rising presence column": all of it, on a new scan
module _ (c : Column) (is-sound : sound c ≡ true) (is-rising : rises (sequence_of c) 0 (size_of c) ≡ true) where
  whole : rising_window (source_of c) 0 (size_of c) ≡ true
  whole = column-window c 0 (size_of c) is-sound (le-ltb (size_of c) (size_of c) (le_refl (size_of c))) is-rising

  pub column-no-search-refused : (ks : List ℤ) → every accepted (seeks (source_of c) (fresh 0 (size_of c)) ks) ≡ true
  column-no-search-refused = no-search-refused (source_of c) 0 (size_of c) whole

  pub column-no-refusal-fills : (ks : List ℤ)
      → (refused_of ks (seeks (source_of c) (fresh 0 (size_of c)) ks) ≡ [])
      × (filled ks (seeks (source_of c) (fresh 0 (size_of c)) ks) ≡ answered_otherwise ks (seeks (source_of c) (fresh 0 (size_of c)) ks))
  column-no-refusal-fills = no-refusal-fills (source_of c) 0 (size_of c) whole
