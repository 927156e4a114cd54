-- The column in a record: its runs, and how a pass over them comes to what `check_of` says. Assumes nothing.
use Prim.Native.Nat.{ℕ, zero, suc, ◌+◌, ◌-◌, ◌≤◌, ◌<◌}
use mathlib.Core.Path.{◌≡◌, refl, sym, ap, ◌∙◌}
use mathlib.Core.Bool.{Bool, true, false, not, ◌&&◌}
use mathlib.Core.List.{List}
use mathlib.Core.Logic.{◌↔◌}
use native.Mathlib.Omega.{arith}
use native.Mathlib.Numerals.{add-one}
use borrow.Author.Count.{below_more}
use borrow.Author.Tests.{eq-eqb, le-leb}
use lib.ListN.{length}
use lib.IntN.{ℤ, pos}
use Rattle.ranges.specs.Ranges.{all_for, all_in}
use Rattle.ranges.proofs.Spans.{all-in, in_all, not-all-in, all-next}
use Rattle.keys.specs.Widths.{fits_in, half64}
use Rattle.meaning.specs.Refusals.{Gives, Number, fine}
use Rattle.meaning.specs.Column.{Column, start_of, end_of, step_of, end_before, runs, offset, shape_ok, end_ok, ends_ok, run_ok, reach_ok, source_of}
use Rattle.meaning.specs.Calls.{check_of}
use Rattle.meaning.proofs.Parts.{each-length, each_at}
use Rattle.meaning.proofs.Calls.{check-ends, check-reach, check-all}
use Rattle.meaning.proofs.Soundness.{run-told}
use Rattle.meaning.proofs.Runs.{before-zero, before-suc, end-rises, end-most, end_low, end-far, end-good}
use Rattle.codec.specs.Record.{start_in, step_in, count_in, total_in, column_to}

-- ---- totals

pub total-none : (bytes : List ℕ) → 0 ≡ total_in bytes 0
unfolding total_in
total-none bytes = refl

pub total-more : (bytes : List ℕ) (r : ℕ) → total_in bytes r + count_in bytes r ≡ total_in bytes (r + 1)
unfolding total_in
total-more bytes r = rw (add-one r)

-- ---- the column of the first n runs

module _ (bytes : List ℕ) (n : ℕ) where
  abbrev col : Column
  col = column_to bytes n

  pub runs-are : runs col ≡ n
  runs-are = each-length (λ r. total_in bytes (suc r)) n

  pub shape-fine : n ≤ 4096 → shape_ok col ≡ true
  unfolding shape_ok
  shape-fine l =
      let a = each-length (start_in bytes) n ∙ sym runs-are in
      let b = each-length (step_in bytes) n ∙ sym runs-are in
      rw (eq-eqb (length col.starts) (runs col) a, eq-eqb (length col.steps) (runs col) b, le-leb (runs col) 4096 (rw runs-are l))

  module _ (r : ℕ) (l : r < n) where
    pub start_is : start_of col r ≡ start_in bytes r
    start_is = each_at (start_in bytes) (pos 0) r n l

    pub step_is : step_of col r ≡ step_in bytes r
    step_is = each_at (step_in bytes) (pos 0) r n l

    pub end_is : end_of col r ≡ total_in bytes (suc r)
    end_is = each_at (λ k. total_in bytes (suc k)) 0 r n l

  pub before-is : (r : ℕ) → r ≤ n → end_before col.ends r ≡ total_in bytes r
  before-is zero l = sym (before-zero col.ends {r = 0} refl) ∙ total-none bytes
  before-is (suc r) l = before-suc col.ends r ∙ end_is r l

  -- a run's length is the one that is stored
  pub count-is : (r : ℕ) → r < n → end_of col r - end_before col.ends r ≡ count_in bytes r
  unfolding total_in
  count-is r l = rw (end_is r l, before-is r (omega arith)) (omega arith)

  -- 2 and 3 in terms of the bytes. "a run length of 0 is 2", and so is a total over 4,294,967,295;
  pub ends-exactly : (ends_ok col.ends ≡ true) ↔ ((r : ℕ) → r < n → (0 < count_in bytes r) × (total_in bytes (r + 1) ≤ 4294967295))
  unfolding ends_ok
  ends-exactly = (
    λ h r l. let good = in_all (end_ok col.ends) 0 (runs col) h r (omega arith) (rw runs-are l) in
        (omega (arith, end-rises col.ends r good, count-is r l), omega (arith, end-most col.ends r good, end_is r l, ap (total_in bytes) (add-one r))),
    λ f. all-in (end_ok col.ends) 0 (runs col) (λ r u m.
        let l : r < n = rw runs-are at m in
        end-good col.ends r (end_before col.ends r) refl (omega (arith, count-is r l, (f r l).0)) (omega (arith, end_is r l, ap (total_in bytes) (add-one r), (f r l).1))),
  )

  -- a run whose last element is no i64 is 3
  pub reach-exactly : (reach_ok half64 col ≡ true) ↔ ((r : ℕ) → r < n → fits_in half64 (offset (start_in bytes r) (step_in bytes r) (count_in bytes r - 1)) ≡ true)
  unfolding reach_ok run_ok
  reach-exactly = (
    λ h r l. rw (start_is r l, step_is r l, count-is r l) at (in_all (run_ok half64 col) 0 (runs col) h r (omega arith) (rw runs-are l)),
    λ f. all-in (run_ok half64 col) 0 (runs col) (λ r u m. let l : r < n = rw runs-are at m in rw (start_is r l, step_is r l, count-is r l) (f r l)),
  )

  -- an end that is wrong
  wrong-end : n ≤ 4096 → (k : ℕ) → k < n → end_ok col.ends k ≡ false → Number 2 ≡ check_of (source_of col)
  unfolding ends_ok
  wrong-end few k l h = check-ends (source_of col) (ap not (shape-fine few)) (ap not (not-all-in (end_ok col.ends) 0 (runs col) k (omega arith) (rw runs-are l) h))

-- ---- a pass over the runs

-- the first i runs are right in 2, and whether they are in 3
pub record Passed (bytes : List ℕ) (n i total : ℕ) (reach : Bool) : Type 0 where
  pub within : i ≤ n
  pub is-total : total ≡ total_in bytes i
  pub most : total ≤ 4294967295
  pub ends : (k : ℕ) → k < i → end_ok (column_to bytes n).ends k ≡ true
  pub is-reach : reach ≡ all_in (run_ok half64 (column_to bytes n)) 0 i

module _ (bytes : List ℕ) (n : ℕ) where
  pub passed_none : Passed bytes n 0 0 true
  unfolding all_for
  passed_none = record {
    within = omega arith;
    is-total = total-none bytes;
    most = omega arith;
    ends = λ k l. absurd (omega arith);
    is-reach = refl;
  }

  module _ (i total : ℕ) (reach : Bool) (p : Passed bytes n i total reach) (l : i < n) (count : ℕ) (is : count ≡ count_in bytes i) where
    last-is : total ≡ end_before (column_to bytes n).ends i
    last-is = p.is-total ∙ sym (before-is bytes n i p.within)

    next-is : end_of (column_to bytes n) i ≡ total + count
    unfolding total_in
    next-is = end_is bytes n i l ∙ rw (p.is-total, is)

    -- "a run length of 0 is 2"
    pub passed-empty : n ≤ 4096 → count ≡ 0 → Number 2 ≡ check_of (source_of (column_to bytes n))
    passed-empty few z = wrong-end bytes n few i l (end_low (column_to bytes n).ends i total last-is (omega (arith, next-is)))

    -- and so is an end over 4,294,967,295
    pub passed-far : n ≤ 4096 → 4294967295 < total + count → Number 2 ≡ check_of (source_of (column_to bytes n))
    passed-far few m = wrong-end bytes n few i l (end-far (column_to bytes n).ends i (omega (arith, next-is)))

    -- one run more
    pub passed-more : (start step : ℤ) (b : Bool) → (count ≡ 0 → ⊥) → total + count ≤ 4294967295 → start ≡ start_in bytes i → step ≡ step_in bytes i
        → b ≡ fits_in half64 (offset start step (count - 1)) → Passed bytes n (i + 1) (total + count) (reach && b)
    passed-more start step b some most es ed eb = record {
      within = omega arith;
      is-total = rw (p.is-total, is) (total-more bytes i);
      most = most;
      ends = below_more (λ k. end_ok (column_to bytes n).ends k ≡ true) i p.ends
          (end-good (column_to bytes n).ends i total last-is (omega (arith, next-is)) (omega (arith, next-is)));
      is-reach =
          let this : b ≡ run_ok half64 (column_to bytes n) i = run-told (column_to bytes n) half64 total i start step b last-is
          (es ∙ sym (start_is bytes n i l)) (ed ∙ sym (step_is bytes n i l)) (eb ∙ ap (λ k. fits_in half64 (offset start step k)) (omega (arith, next-is))) in
          rw (p.is-reach, this) (all-next (run_ok half64 (column_to bytes n)) 0 i (omega arith));
    }

  module _ (few : n ≤ 4096) (i total : ℕ) (reach : Bool) (p : Passed bytes n i total reach) (done : n ≤ i) where
    all-ends : ends_ok (column_to bytes n).ends ≡ true
    unfolding ends_ok
    all-ends = all-in (end_ok (column_to bytes n).ends) 0 (runs (column_to bytes n)) (λ k u m. p.ends k (omega (arith, runs-are bytes n)))

    all-reach : reach ≡ reach_ok half64 (column_to bytes n)
    unfolding reach_ok
    all-reach = let e : i ≡ runs (column_to bytes n) = omega (arith, runs-are bytes n, p.within) in rw e at p.is-reach

    pub passed-fine : reach ≡ true → Gives fine ≡ check_of (source_of (column_to bytes n))
    passed-fine h = check-all (source_of (column_to bytes n)) (ap not (shape-fine bytes n few)) (ap not all-ends) (ap not (sym all-reach ∙ h))

    pub passed-reach : reach ≡ false → Number 3 ≡ check_of (source_of (column_to bytes n))
    passed-reach h = check-reach (source_of (column_to bytes n)) (ap not (shape-fine bytes n few)) (ap not all-ends) (ap not (sym all-reach ∙ h))
