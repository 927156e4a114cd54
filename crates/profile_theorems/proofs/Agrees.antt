-- The profiles agree with a scan's seeks, with the auditor's list of filled logs, and with request 3's bitmaps. Assumes nothing.
use Prim.Native.Nat.{ℕ, zero, suc, ◌-◌, ◌<◌, ◌≤◌}
use mathlib.Core.Path.{◌≡◌, refl, ap, ◌∙◌}
use mathlib.Core.Logic.Iff
use mathlib.Core.Logic.{◌↔◌}
use mathlib.Core.Bool.{Bool, true, not, false≢true}
use mathlib.Core.List.{List, ◌∷◌, map}
use mathlib.Core.Option.{Option, some, none}
use native.Mathlib.Omega.{arith}
use native.Mathlib.Nat.{le_refl}
use borrow.Author.Tests.{le-ltb}
use lib.IntN.{ℤ, pos}
use lib.Signed.{lt_z}
use Rattle.ranges.proofs.Bools.{either, and_both, not_yes}
use Rattle.ranges.proofs.Reading.{same_test}
use Rattle.meaning.specs.Refusals.{Said, Gives, Number}
use Rattle.meaning.specs.Sequence.{Source, rises}
use Rattle.meaning.specs.Column.{Column, size_of, sequence_of, source_of, sound}
use Rattle.meaning.proofs.Carried.{same-is, carries-exactly-if}
use Rattle.loftsplice.specs.Scan.{fresh, seek_of}
use Rattle.loftsplice.specs.Lead.{found}
use Rattle.theorems.specs.Audit.{ascending_from, ascending, seeks, filled}
use Rattle.theorems.proofs.Audit.{column-window, column-found-exactly-if, one-after-the-other}
use Rattle.bits.specs.Bitmap.{present, bytes_for}
use Rattle.bits.proofs.Exact.{bitmap-says}
use Rattle.recorded.specs.Records.{carries_record}
use Rattle.exporting.specs.Export.{exported_bytes}
use Rattle.profiles.specs.Profiles.{carries_field, numbers_for, numbers_in, filled_in}

-- ---- bitmaps

-- bit i of an exported bitmap is 1 exactly if profile 1 carries record i
pub bit-is-field : (p : Source) (count i : ℕ) → i < count → present (exported_bytes p count) i ≡ carries_field 1 p.sequence i
unfolding carries_field
bit-is-field p count i l = bitmap-says (carries_record p.sequence) (bytes_for count) i (omega arith)

-- ---- seeks

found-is : (k : ℤ) (a : Said (Option ℤ)) → (found k a ≡ true) ↔ (a ≡ Gives (some k))
found-is k a = (there a, λ e. rw e ((same-is k k).1 refl))
  where
    there : (a : Said (Option ℤ)) → found k a ≡ true → a ≡ Gives (some k)
    there (Gives (some v)) h = ap (λ x. Gives (some x)) ((same-is v k).0 h)
    there (Gives none) h = absurd (false≢true h)
    there (Number n) h = absurd (false≢true h)

-- all records of a window
abbrev pub window : ℕ → ℕ → List ℤ
window start end = map pos (numbers_in (λ i. true) start end)

up_from : (n a x : ℕ) → x ≤ a → ascending_from (pos x) (map pos (numbers_for (λ i. true) a n)) ≡ true
unfolding numbers_for ascending_from
up_from zero a x l = refl
up_from (suc n) a x l = and_both (not (lt_z (pos a) (pos x))) (ascending_from (pos a) (map pos (numbers_for (λ i. true) (suc a) n)))
    (not_yes (lt_z (pos a) (pos x)) (le-ltb a x l)) (up_from n (suc a) a (omega arith))

up : (n a : ℕ) → ascending (map pos (numbers_for (λ i. true) a n)) ≡ true
unfolding numbers_for
up zero a = refl
up (suc n) a = up_from n (suc a) a (omega arith)

pub window-ascends : (start end : ℕ) → ascending (window start end) ≡ true
window-ascends start end = up (end - start) start

-- those of consecutive numbers that are not answered with themselves
filled-list : (answer : ℤ → Said (Option ℤ)) (p : ℕ → Bool) → ((i : ℕ) → found (pos i) (answer (pos i)) ≡ p i)
    → (n a : ℕ) → filled (map pos (numbers_for (λ i. true) a n)) (map answer (map pos (numbers_for (λ i. true) a n))) ≡ map pos (numbers_for (λ i. not (p i)) a n)
unfolding numbers_for filled
filled-list answer p f zero a = refl
filled-list answer p f (suc n) a =
    either (p a)
    (λ t. rw (f a, t) (filled-list answer p f n (suc a)))
    (λ t. rw (f a, t) (ap (λ l. pos a ∷ l) (filled-list answer p f n (suc a))))

module _ (c : Column) (is-sound : sound c ≡ true) (is-rising : rises (sequence_of c) 0 (size_of c) ≡ true) where
  -- a seek on a new scan answers a record number with itself exactly if profile 1 carries it
  pub seek-is-field : (i : ℕ) → ((seek_of (source_of c) (pos i) (fresh 0 (size_of c))).said ≡ Gives (some (pos i))) ↔ (carries_field 1 (sequence_of c) i ≡ true)
  unfolding carries_field
  seek-is-field i =
      let a = column-found-exactly-if c is-sound is-rising (pos i) in
      let b = carries-exactly-if (sequence_of c) (pos i) in
      (λ h. b.1 (a.0 h), λ h. a.1 (b.0 h))

  -- THE AUDITOR'S LIST: the filled logs, of all records of a window that are sought one after the other on one scan, are `filled`'s list
  pub filled-logs : (start end : ℕ) → filled (window start end) (seeks (source_of c) (fresh 0 (size_of c)) (window start end)) ≡ map pos (filled_in 1 (sequence_of c) start end)
  filled-logs start end =
      ap (filled (window start end))
      (one-after-the-other (source_of c) 0 (size_of c) (column-window c 0 (size_of c) is-sound (le-ltb (size_of c) (size_of c) (le_refl (size_of c))) is-rising) (window start end) (window-ascends start end))
      ∙ filled-list (λ k. (seek_of (source_of c) k (fresh 0 (size_of c))).said) (carries_field 1 (sequence_of c))
      (λ i. same_test _ _ (Iff.trans (found-is (pos i) (seek_of (source_of c) (pos i) (fresh 0 (size_of c))).said) (seek-is-field i))) (end - start) start
