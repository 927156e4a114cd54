-- What is built: a column that no test refuses, whose elements are the list, and that its own elements build again; and what the call leaves.
-- Assumes nothing.
use Rattle.std.proofs.Common.{◌≡◌, ℕ, zero, suc, ◌<◌, ◌≤◌, true, false, ltb, List, length, take, drop, ℤ, pos, sym, refl, ap, ◌∙◌, arith, take_at, ext_get_or, ltb-false}
use lib.ListN.{length-map}
use Rattle.keys.specs.Widths.{fits_in, half16, half64}
use Rattle.ranges.proofs.Bools.{In, or_left, or_right}
use Rattle.meaning.specs.Refusals.{fine, Gives}
use Rattle.meaning.specs.Sequence.{elements_in}
use Rattle.meaning.specs.Column.{Column, column_of, step_of, end_before, runs, size_of, sequence_of, source_of, sound}
use Rattle.meaning.specs.Calls.{check_of}
use Rattle.meaning.proofs.Calls.{check-fine}
use Rattle.meaning.proofs.Judging.{Passes, sound-passes}
use Rattle.meaning.proofs.Parts.{each-length, each_at}
use Rattle.meaning.proofs.Runs.{before-suc, before-zero}
use Rattle.meaning.proofs.Soundness.{Sound, sound-parts}
use Rattle.build.specs.declared.Built.TheVariants.{Runs}
use Rattle.build.specs.Rule.{Run, begun, runs_of, as_column, built_from, too_much}
use Rattle.build.specs.Follows.{AllRegular, Parted}
use Rattle.build.proofs.Columns.{run_in, runs_in, run_at, runs-are, end_is, start_is, step_is, column-values, least-column, built-size, built-elements, built-sound}
use Rattle.build.proofs.Exact.{build-gives}
use Rattle.build.proofs.Unique.{follows_is, BuildMeets}

-- a column's elements, as a list
abbrev elements : Column → List ℤ
elements c = elements_in (sequence_of c) 0 (size_of c)

-- ---- from a list of i64s

module _ (xs : List ℤ) (fits : (v : ℤ) → In v xs → fits_in half64 v ≡ true) where
  -- "the elements are the list again"
  pub elements-again : elements (built_from xs) ≡ xs
  elements-again = ap (elements_in (sequence_of (built_from xs)) 0) (built-size xs fits) ∙ built-elements xs fits

  -- what is built from a column's own elements is that column, if it was built
  pub built-again : built_from (elements (built_from xs)) ≡ built_from xs
  built-again = ap built_from elements-again

  -- 1, 2 and 3 never refuse it
  module _ (h : too_much xs ≡ false) where
    pub built-passes : Passes (source_of (built_from xs))
    unfolding too_much
    built-passes = sound-passes (built_from xs) (built-sound xs fits
        (ltb-false 4096 (length (runs_of xs)) (or_left (ltb 4096 (length (runs_of xs))) (ltb 4294967295 (length xs)) h))
        (ltb-false 4294967295 (length xs) (or_right (ltb 4096 (length (runs_of xs))) (ltb 4294967295 (length xs)) h)))

    pub built-checked : Gives fine ≡ check_of (source_of (built_from xs))
    built-checked = check-fine (source_of (built_from xs)) built-passes

-- ---- a sound column, whoever made it

module _ (c : Column) (s : sound c ≡ true) where
  abbrev parts : Sound c
  parts = sound-parts c s

  abbrev rs : List Run
  rs = runs_in c

  many : length rs ≡ runs c
  many = each-length (run_in c) (runs c)

  at : (k : ℕ) → k < runs c → run_at rs k ≡ run_in c k
  at k l = each_at (run_in c) (begun (pos 0)) k (runs c) l

  before_same : (k : ℕ) → k ≤ runs c → end_before (as_column rs).ends k ≡ end_before c.ends k
  before_same zero l = sym (before-zero (as_column rs).ends {r = 0} refl) ∙ before-zero c.ends {r = 0} refl
  before_same (suc k) l =
      before-suc (as_column rs).ends k ∙ end_is rs k (rw many l) ∙ rw (at k l, before_same k (omega arith)) (omega (arith, parts.up k l)) ∙ sym (before-suc c.ends k)

  -- its runs, as a column, are the column
  pub column-back : as_column rs ≡ c
  column-back =
      let starts : (as_column rs).starts ≡ c.starts = ext_get_or (pos 0) (as_column rs).starts c.starts (length-map rs (λ (r : Run). r.start) ∙ many ∙ sym parts.shaped.starts-long)
      (λ k l. start_is rs k ∙ ap (λ (r : Run). r.start) (at k (rw (length-map rs (λ (r : Run). r.start) ∙ many) at l))) in
      let steps : (as_column rs).steps ≡ c.steps = ext_get_or (pos 0) (as_column rs).steps c.steps (length-map rs (λ (r : Run). r.step) ∙ many ∙ sym parts.shaped.steps-long)
      (λ k l. step_is rs k ∙ ap (λ (r : Run). r.step) (at k (rw (length-map rs (λ (r : Run). r.step) ∙ many) at l))) in
      let ends : (as_column rs).ends ≡ c.ends = ext_get_or 0 (as_column rs).ends c.ends (runs-are rs ∙ many)
      (λ k l. sym (before-suc (as_column rs).ends k) ∙ before_same (suc k) (rw (runs-are rs ∙ many) at l) ∙ before-suc c.ends k) in
      rw (starts, ends, steps)

  -- if its runs follow the rule, its own elements build it again
  pub follows-again : AllRegular rs → Parted rs → built_from (elements c) ≡ c
  follows-again g p = ap as_column (sym (follows_is (elements c) rs (record { values = sym (column-values c parts.up); regular = g; parted = p }))) ∙ column-back

  -- and what they build has no more runs than it, whether they do or not
  pub built-least : ((r : ℕ) → r < runs c → fits_in half16 (step_of c r) ≡ true) → runs (built_from (elements c)) ≤ runs c
  built-least fits = rw (runs-are (runs_of (elements c))) (least-column c s fits (elements c) refl)

-- ---- what the call leaves

module _ {values starts : List ℤ} {ends : List ℕ} {steps : List ℤ} {starts' : List ℤ} {ends' : List ℕ} {steps' : List ℤ} where
  -- an accepted call: the first places of the arrays, as many as it says, are the column; the others are as they were
  module _ (n : ℕ) (m : BuildMeets values starts ends steps (Runs n) starts' ends' steps') where
    pub written_count : n ≡ length (runs_of values)
    written_count = build-gives values (length starts) (length ends) (length steps) n (sym m.said)

    pub written-column : column_of (take n starts') (take n ends') (take n steps') ≡ built_from values
    written-column =
        let a = take_at (built_from values).starts (drop (length (built_from values).starts) starts) n (length-map (runs_of values) (λ (r : Run). r.start) ∙ sym written_count) in
        let b = take_at (built_from values).ends (drop (length (built_from values).ends) ends) n (runs-are (runs_of values) ∙ sym written_count) in
        let d = take_at (built_from values).steps (drop (length (built_from values).steps) steps) n (length-map (runs_of values) (λ (r : Run). r.step) ∙ sym written_count) in
        rw (m.starts-are, m.ends-are, m.steps-are, a, b, d)
