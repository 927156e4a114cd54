-- A window, run by run: what is summed so far, and the part of the next run. Assumes nothing.
use Prim.Native.Nat.{ℕ, suc, ◌+◌, ◌-◌, ◌≤◌, ◌<◌, min}
use mathlib.Core.Path.{◌≡◌, refl, sym, ap, subst}
use mathlib.Core.Bool.{true}
use mathlib.Core.List.{List, [], ◌++◌}
use native.Mathlib.Omega.{arith}
use native.Mathlib.Nat.{le_refl}
use native.Mathlib.Numerals.{add-one}
use lib.IntN.{ℤ}
use lib.Signed.{mag}
use Rattle.keys.specs.Widths.{fits_in, half64}
use Rattle.keys.proofs.Widths.{convex}
use Rattle.meaning.specs.Sequence.{elements_for, elements_in}
use Rattle.meaning.specs.Column.{Column, start_of, end_of, step_of, end_before, runs, size_of, offset, run_of, run_ok, sequence_of}
use Rattle.meaning.proofs.Runs.{before-suc, run-in, run-le, run-there, run-above, run-from}
use Rattle.meaning.proofs.Soundness.{Sound}
use Rattle.meaning.proofs.Elements.{elements-parts, one_run, run-elements}
use Rattle.totals.specs.declared.summing.Sums.{Sums}
use Rattle.totals.specs.Inner.{Holds}
use Rattle.totals.proofs.Lists.{holds-few}

-- the elements from..at are summed, and the next one, if it is before `to`, is the one at offset skip of run
pub record Walked (c : Column) (from to run skip at : ℕ) (s : Sums) : Type 0 where
  pub lo : from ≤ at
  pub hi : at ≤ to
  pub is-run : at < to → run ≡ run_of c.ends at
  pub is-skip : at < to → skip ≡ at - end_before c.ends run
  pub few : run ≤ runs c
  pub holds : Holds s (elements_in (sequence_of c) from at) run

-- what was added up of two lists
abbrev pub Adds : Sums → Sums → Sums → Type 0
Adds a b s = (xs ys : List ℤ) (m n : ℕ) → Holds a xs m → Holds b ys n → Holds s (xs ++ ys) (m + n)

pub walk_start : (c : Column) (from to run skip : ℕ) (s : Sums) → from ≤ to → run ≡ run_of c.ends from → skip ≡ from - end_before c.ends run → Holds s [] 0
    → Walked c from to run skip from s
unfolding elements_for
walk_start c from to run skip s l e f h =
    let z : from - from ≡ 0 = omega arith in
    record { lo = le_refl from; hi = l; is-run = λ _. e; is-skip = λ _. f; few = rw e (run-le c.ends from); holds = rw z (holds-few s [] 0 run (omega arith) h) }

-- the part of run that is summed next, from index at to before end
pub record Part (c : Column) (from to run skip at end : ℕ) (s : Sums) : Type 0 where
  pub there : run < runs c
  pub after : at < end
  pub short : skip + (end - at) ≤ 4294967295
  pub fits : mag (start_of c run) < half64 → fits_in half64 (offset (start_of c run) (step_of c run) (skip + (end - at) - 1)) ≡ true
  pub next : (b t : Sums) → Holds b (elements_for (one_run (offset (start_of c run) (step_of c run) skip) (step_of c run) (end - at)) 0 (end - at)) 1 → Adds s b t
      → Walked c from to (run + 1) 0 end t

module _ (c : Column) (p : Sound c) (from to run skip at end : ℕ) (s : Sums) (h : Walked c from to run skip at s) (inside : to ≤ size_of c) (l : at < to)
    (is-end : end ≡ min (end_of c run) to) where
  here : run < runs c
  here = rw (h.is-run l) (run-there c.ends at (omega arith))

  under : at < end_of c run
  under = rw (h.is-run l) (run-above c.ends at (run-there c.ends at (omega arith)))

  begun : end_before c.ends run ≤ at
  begun = rw (h.is-run l) (run-from c.ends at)

  in_reach : mag (start_of c run) < half64 → fits_in half64 (offset (start_of c run) (step_of c run) (skip + (end - at) - 1)) ≡ true
  unfolding run_ok
  in_reach m = convex half64 (start_of c run) (step_of c run) (skip + (end - at) - 1) (end_of c run - end_before c.ends run - 1) m (p.reach run here)
      (omega (arith, h.is-skip l, begun, under, is-end))

  part-elements : elements_in (sequence_of c) at end ≡ elements_for (one_run (offset (start_of c run) (step_of c run) skip) (step_of c run) (end - at)) 0 (end - at)
  part-elements = run-elements c p run at end (end_before c.ends run) (offset (start_of c run) (step_of c run) skip) here refl begun (omega arith)
      (ap (offset (start_of c run) (step_of c run)) (h.is-skip l)) (omega (arith, under))

  pub walk-part : Part c from to run skip at end s
  walk-part = record {
    there = here;
    after = omega (arith, under);
    short = omega (arith, h.is-skip l, begun, under, p.most run here);
    fits = in_reach;
    next = λ b t hb adds. record {
      lo = omega (arith, h.lo, under);
      hi = omega arith;
      is-run = λ m. rw add-one (run-in c.ends end p.up (suc run) here (omega (arith, before-suc c.ends run))
          (λ n. omega (arith, before-suc c.ends run, p.up (suc run) n)));
      is-skip = λ m. rw add-one (omega (arith, before-suc c.ends run));
      few = omega (arith, here);
      holds = subst (λ xs. Holds t xs (run + 1)) (sym (elements-parts (sequence_of c) from at end h.lo (omega (arith, under))))
          (adds (elements_in (sequence_of c) from at) (elements_in (sequence_of c) at end) run 1 h.holds (subst (λ xs. Holds b xs 1) (sym part-elements) hb));
    };
  }

pub walk-done : (c : Column) (p : Sound c) (from n run skip at : ℕ) (s : Sums) → Walked c from (from + n) run skip at s → from + n ≤ at → Holds s (elements_for (sequence_of c) from n) 4096
walk-done c p from n run skip at s h l =
    let e : at - from ≡ n = omega (arith, h.lo, h.hi) in
    holds-few s (elements_for (sequence_of c) from n) run 4096 (omega (arith, h.few, p.shaped.few)) (rw e at h.holds)
