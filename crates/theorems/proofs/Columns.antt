-- Columns and windows: each index lies in one run, every element fits, short windows rise. Assumes nothing.
use Prim.Native.Nat.{ℕ, zero, suc, ◌-◌, ◌<◌, ◌≤◌}
use mathlib.Core.Path.{◌≡◌, refl, sym, ap, ◌∙◌}
use mathlib.Core.Bool.{Bool, true, false}
use mathlib.Core.List.{List, [], ◌∷◌}
use mathlib.Core.Logic.Iff
use mathlib.Core.Logic.{◌↔◌, ⊎_elim}
use mathlib.Core.Option.{none}
use native.Mathlib.Omega.{arith}
use native.Mathlib.Nat.{le_refl}
use borrow.Author.Tests.{ltb-true, le-ltb, lt-leb}
use lib.Dec.{ltb, leb}
use lib.ListN.{length, get_or}
use lib.IntN.{pos}
use lib.Signed.{mag, lt_z}
use Rattle.ranges.specs.Ranges.{every}
use Rattle.ranges.proofs.Bools.{and_left, and_right, and-false}
use Rattle.ranges.proofs.Spans.{in_all, all-in, lt-or-ge}
use Rattle.ranges.proofs.Reading.{reading}
use Rattle.keys.specs.Widths.{fits_in, half64}
use Rattle.keys.proofs.Widths.{in-mag}
use Rattle.meaning.specs.Refusals.{fine, Gives, tried}
use Rattle.meaning.specs.Sequence.{Sequence, in_window, rises}
use Rattle.meaning.specs.Column.{Column, start_of, end_of, step_of, end_before, runs, size_of, offset, run_of, offset_of, place_at, element_at, shape_ok, ends_ok, run_ok, reach_ok, sound, source_of}
use Rattle.meaning.specs.Calls.{check_of, place_of}
use Rattle.loftsplice.specs.declared.scan.State.TheVariants.{Fresh, Ended}
use Rattle.loftsplice.specs.Scan.{fresh, put, go_to, next_from}
use Rattle.meaning.proofs.Judging.{passed, passes-sound, sound-passes}
use Rattle.meaning.proofs.Calls.{check-fine, place-at}
use Rattle.meaning.proofs.Places.{place-past}
use Rattle.meaning.proofs.Runs.{end-le-before, run-above, run-from, run-there, run-in, run_past}
use Rattle.meaning.proofs.Soundness.{shape-parts, ends-rise, run-fits}

pub sound-tests : (c : Column) → (sound c ≡ true) ↔ ((shape_ok c ≡ true) × (ends_ok c.ends ≡ true) × (reach_ok half64 c ≡ true))
unfolding sound
sound-tests c = simp reading Iff.rfl

-- ---- runs

-- index i lies in run r
abbrev pub InRun : Column → ℕ → ℕ → Type 0
InRun c i r = (r < runs c) × (end_before c.ends r ≤ i) × (i < end_of c r)

module _ (c : Column) (ok : ends_ok c.ends ≡ true) where
  -- every index below the length lies in a run, which `run_of` gives, and in no other,
  pub in-one-run : (i : ℕ) → i < size_of c → InRun c i (run_of c.ends i) × ((r : ℕ) → InRun c i r → r ≡ run_of c.ends i)
  in-one-run i l =
      let there = run-there c.ends i l in
      ((there, run-from c.ends i, run-above c.ends i there), λ r h. run-in c.ends i (ends-rise c.ends ok) r (omega arith) h.1 (λ _. h.2))

  -- with an offset below that run's length
  pub offset-below : (i : ℕ) → i < size_of c → offset_of c.ends i < end_of c (run_of c.ends i) - end_before c.ends (run_of c.ends i)
  offset-below i l = let h = (in-one-run i l).0 in omega arith

  -- "Index equal to length has the place (run count, 0)."; "for the index equal to length that number is 0"
  pub length-place : place_at c.ends (size_of c) ≡ record { run = runs c; offset = 0; follows = 0 }
  length-place = sym (ap (λ k. record { run = runs c; offset = k; follows = 0 }) none ∙ place-past c.ends (size_of c) (runs c) (size_of c) past refl refl)
    where
      past : runs c ≡ run_of c.ends (size_of c)
      past = run_past c.ends (size_of c) (ends-rise c.ends ok) (le_refl _)

      none : 0 ≡ size_of c - size_of c
      none = omega arith

  -- the element at an index, by the run that it lies in
  pub element-in : (i r : ℕ) → InRun c i r → element_at c i ≡ offset (start_of c r) (step_of c r) (i - end_before c.ends r)
  unfolding element_at
  element-in i r h = rw (sym (run-in c.ends i (ends-rise c.ends ok) r (omega arith) h.1 (λ _. h.2)))

-- what place answers there
pub length-placed : (c : Column) → sound c ≡ true → place_of c (size_of c) ≡ Gives (record { run = runs c; offset = 0; follows = 0 })
length-placed c ok = sym (place-at c (sound-passes c ok) (size_of c) _ (le_refl _) (sym (length-place c ((sound-tests c).0 ok).1)))

-- ---- elements

every-at-index : {A : Type 0} (p : A → Bool) (xs : List A) (d : A) (i : ℕ) → every p xs ≡ true → i < length xs → p (get_or xs i d) ≡ true
unfolding every
every-at-index p [] d i h l = absurd (omega arith)
every-at-index p (x ∷ xs) d zero h l = and_left (p x) (every p xs) h
every-at-index p (x ∷ xs) d (suc i) h l = every-at-index p xs d i (and_right (p x) (every p xs) h) (omega arith)

-- a column whose starts are numbers of a width, h its half power
module _ (h : ℕ) (c : Column) (long : length c.starts ≡ runs c) (ends : ends_ok c.ends ≡ true) (starts : every (fits_in h) c.starts ≡ true) where
  start-mag : (r : ℕ) → r < runs c → mag (start_of c r) < h
  start-mag r l = ltb-true (mag (start_of c r)) h (sym (in-mag h (start_of c r)) ∙ every-at-index (fits_in h) c.starts (pos 0) r starts (omega arith))

  -- 3 REACH tests the last element of each run, and the starts are numbers of the width; it passes exactly if every element is one
  pub reach-exactly : (reach_ok h c ≡ true) ↔ ((i : ℕ) → i < size_of c → fits_in h (element_at c i) ≡ true)
  unfolding reach_ok run_ok
  reach-exactly = (there, back)
    where
      there : reach_ok h c ≡ true → (i : ℕ) → i < size_of c → fits_in h (element_at c i) ≡ true
      there ok i l =
          let r = run_of c.ends i in
          let g : InRun c i r = (in-one-run c ends i l).0 in
          rw (element-in c ends i r g) (run-fits c h r (i - end_before c.ends r) (in_all (run_ok h c) 0 (runs c) ok r (omega arith) g.0) (start-mag r g.0) (omega arith))

      back : ((i : ℕ) → i < size_of c → fits_in h (element_at c i) ≡ true) → reach_ok h c ≡ true
      back f = all-in (run_ok h c) 0 (runs c) (λ r a l. last r l (ends-rise c.ends ends r l) (end-le-before c.ends (ends-rise c.ends ends) r (runs c) l (le_refl _)))
        where
          last : (r : ℕ) → r < runs c → end_before c.ends r < end_of c r → end_of c r ≤ size_of c → run_ok h c r ≡ true
          last r l up low =
              let i = end_of c r - 1 in
              let k : i - end_before c.ends r ≡ end_of c r - end_before c.ends r - 1 = omega arith in
              rw (sym k, sym (element-in c ends i r (l, omega arith, omega arith))) (f i (omega arith))

-- the elements of a sound column are i64s, if its starts are, as those of a lent array are
pub elements-fit : (c : Column) → every (fits_in half64) c.starts ≡ true → sound c ≡ true → (i : ℕ) → i < size_of c → fits_in half64 (element_at c i) ≡ true
elements-fit c starts ok = let is = (sound-tests c).0 ok in (reach-exactly half64 c (shape-parts c is.0).starts-long is.1 starts).0 is.2

-- ---- the check

pub sound-exactly : (c : Column) → (sound c ≡ true) ↔ (check_of (source_of c) ≡ Gives fine)
unfolding check_of tried
sound-exactly c = (λ h. sym (check-fine (source_of c) (sound-passes c h)), λ h. passes-sound c (passed (source_of c) (sym h)))

-- ---- windows

-- "Windows of 0 and 1 elements rise."
pub short-rises : (q : Sequence) (start end : ℕ) → end ≤ suc start → rises q start end ≡ true
unfolding rises
short-rises q start end l = all-in (λ i. lt_z (q.at i) (q.at (suc i))) start (end - 1) (λ i a b. absurd (omega arith))

-- "Start at or above end makes it empty": no index is in it,
pub empty-window : (start end i : ℕ) → end ≤ start → in_window start end i ≡ false
empty-window start end i l = ⊎_elim
    (λ (m : i < start). rw (lt-leb start i m))
    (λ (m : start ≤ i). and-false (leb start i) (ltb i end) (le-ltb i end (omega arith)))
    (lt-or-ge i start)

-- a scan that is fresh on it ends with its first move, and gives nothing
pub empty-next : (q : Sequence) (start end : ℕ) → end ≤ start → next_from q (fresh start end) Fresh ≡ record { scan = put q (fresh start end) Ended; said = Gives none }
unfolding next_from go_to
empty-next q start end l = rw (le-ltb start end l)
