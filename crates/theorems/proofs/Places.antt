-- Document 02, request 5: what a place tells of the elements that follow, and a walk from place to place. Assumes nothing.
use Prim.Native.Nat.{ℕ, zero, suc, ◌+◌, ◌-◌, ◌<◌, ◌≤◌}
use mathlib.Core.Path.{◌≡◌, refl, sym, ap, ◌∙◌}
use mathlib.Core.Bool.{true}
use mathlib.Core.List.{map, ◌∷◌}
use mathlib.Core.Logic.{◌↔◌, ⊎_elim}
use native.Mathlib.Omega.{arith}
use native.Mathlib.Nat.{le_refl, eq-or-lt_of_le}
use borrow.Author.Tests.{ne_eqb}
use lib.ListN.{get_or-eq_default}
use Rattle.ranges.proofs.Spans.{lt-or-ge}
use Rattle.meaning.specs.declared.Place.{Place}
use Rattle.meaning.specs.Refusals.{Gives}
use Rattle.meaning.specs.Column.{Column, start_of, end_of, step_of, end_before, runs, size_of, offset, run_of, place_at, ends_ok, sound, source_of}
use Rattle.meaning.specs.Calls.{place_of, get_of}
use Rattle.meaning.proofs.Judging.{sound-passes}
use Rattle.meaning.proofs.Calls.{place-at, get_value}
use Rattle.meaning.proofs.Runs.{Rising, before-suc, before-next, before-zero, climb, end-le-before, run-from, run-there, run-above}
use Rattle.meaning.proofs.Places.{place_is, run-here, run-after}
use Rattle.meaning.proofs.Soundness.{ends-rise}
use Rattle.theorems.specs.Exact.{accepted}
use Rattle.theorems.specs.Places.{Stop, onward, stops, reached, each_run, numbers}
use Rattle.theorems.proofs.ColumnCalls.{place-accepts}
use Rattle.theorems.proofs.Columns.{sound-tests, InRun, element-in, length-placed}

-- ---- one place

-- the place that `place` gave for index i
module _ (c : Column) (i : ℕ) (p : Place) (given : place_of c i ≡ Gives p) where
  fits : (sound c ≡ true) × (i ≤ size_of c)
  fits = (place-accepts c i).0 (ap accepted given)

  ok : ends_ok c.ends ≡ true
  ok = ((sound-tests c).0 fits.0).1

  up : Rising c.ends
  up = ends-rise c.ends ok

  is : p ≡ place_at c.ends i
  is = same (sym given ∙ sym (place-at c (sound-passes c fits.0) i (place_at c.ends i) fits.1 refl))
    where
      same : {a b : Place} → Gives a ≡ Gives b → a ≡ b
      same e = cc

  is-run : p.run ≡ run_of c.ends i
  is-run = ap (λ (x : Place). x.run) is

  is-offset : p.offset ≡ i - end_before c.ends p.run
  is-offset = rw is-run (ap (λ (x : Place). x.offset) is)

  is-follows : p.follows ≡ end_of c p.run - i
  is-follows = rw is-run (ap (λ (x : Place). x.follows) is)

  begun : end_before c.ends p.run ≤ i
  begun = rw is-run (run-from c.ends i)

  unended : i < size_of c → i < end_of c p.run
  unended l = rw is-run (run-above c.ends i (run-there c.ends i l))

  -- "the number of elements from that index to the end of the run": the index k further on lies in that run exactly if k is below it
  pub follows-exactly : (k : ℕ) → InRun c (i + k) p.run ↔ (k < p.follows)
  follows-exactly k = (
    λ h. omega (arith, h.2, is-follows),
    λ l. ⊎_elim
        (λ (m : p.run < runs c). (m, omega (arith, begun), omega (arith, is-follows)))
        (λ (m : runs c ≤ p.run). absurd (omega (arith, is-follows, get_or-eq_default c.ends 0 {n = p.run} m)))
        (lt-or-ge p.run (runs c)),
  )

  run-within : (k : ℕ) → k < p.follows → i + k < size_of c
  run-within k l = let h = (follows-exactly k).1 l in omega (arith, h.2, end-le-before c.ends up p.run (runs c) h.0 (le_refl _))

  -- the elements i, i + 1, .. are start + step * (offset + 0), start + step * (offset + 1), .. of that run
  pub stretch : (k : ℕ) → k < p.follows → get_of (source_of c) (i + k) ≡ Gives (offset (start_of c p.run) (step_of c p.run) (p.offset + k))
  stretch k l = sym (get_value (source_of c) (sound-passes c fits.0) (i + k) _ (run-within k l)
      (sym (element-in c ok (i + k) p.run ((follows-exactly k).1 l) ∙ ap (offset (start_of c p.run) (step_of c p.run)) far)))
    where
      far : i + k - end_before c.ends p.run ≡ p.offset + k
      far = omega (arith, is-offset, begun)

  -- "for the index equal to length that number is 0", and for no other
  pub follows-none : (p.follows ≡ 0) ↔ (i ≡ size_of c)
  follows-none = (
    λ e. ⊎_elim
        (λ (h : i ≡ size_of c). h)
        (λ (l : i < size_of c). absurd (omega (arith, is-follows, unended l)))
        (eq-or-lt_of_le fits.1),
    λ e. ⊎_elim
        (λ (l : 0 < p.follows). absurd (omega (arith, run-within 0 l)))
        (λ (l : p.follows ≤ 0). let z : p.follows ≡ 0 = omega arith in z)
        (lt-or-ge 0 p.follows),
  )

  -- that many further on, the run has ended
  pub run-ended : i < size_of c → i + p.follows ≡ end_of c p.run
  run-ended l = omega (arith, is-follows, unended l)

-- and the index there lies at the beginning of the next run, or is the length
pub next-begins : (c : Column) (i : ℕ) (p q : Place) → place_of c i ≡ Gives p → i < size_of c → place_of c (i + p.follows) ≡ Gives q
    → (q.run ≡ p.run + 1) × (q.offset ≡ 0)
next-begins c i p q given l next =
    let there : p.run < runs c = rw (is-run c i p given) (run-there c.ends i l) in
    let ended = run-ended c i p given l in
    let run : q.run ≡ p.run + 1 = is-run c (i + p.follows) q next ∙ sym (run-after c.ends (up c i p given) (i + p.follows) p.run there (sym ended)) in
    (run, is-offset c (i + p.follows) q next ∙ rw run (omega (arith, ended, before-next c.ends p.run)))

-- ---- a walk

module _ (c : Column) (whole : sound c ≡ true) where
  rise : Rising c.ends
  rise = ends-rise c.ends ((sound-tests c).0 whole).1

  -- the first index of a run, with the whole run to follow
  pub run-placed : (r : ℕ) → r < runs c
      → place_of c (end_before c.ends r) ≡ Gives (record { run = r; offset = 0; follows = end_of c r - end_before c.ends r })
  run-placed r l = sym (place-at c (sound-passes c whole) first _ (climb c.ends (runs c) rise r (runs c) (omega arith) (le_refl _))
      (ap (λ k. record { run = r; offset = k; follows = end_of c r - first }) none ∙ place_is c.ends first r first here refl (end_of c r - first) refl))
    where
      first : ℕ
      first = end_before c.ends r

      here : r ≡ run_of c.ends (end_before c.ends r)
      here = run-here c.ends rise (end_before c.ends r) r l (le_refl _) (rise r l)

      none : 0 ≡ end_before c.ends r - end_before c.ends r
      none = omega arith

  -- from there by what follows: the next run's first index
  on-by : (r : ℕ) → r < runs c → end_before c.ends r + (end_of c r - end_before c.ends r) ≡ end_before c.ends (suc r)
  on-by r l = omega (arith, before-suc c.ends r, rise r l)

  stops-from : (n r : ℕ) → r ≤ runs c → runs c ≤ r + n → stops c n (end_before c.ends r) ≡ each_run c r (runs c - r)
  unfolding stops each_run
  stops-from zero r l m = let e : runs c - r ≡ 0 = omega arith in rw e
  stops-from (suc n) r l m = ⊎_elim
      (λ (e : r ≡ runs c). let z : runs c - r ≡ 0 = omega arith in rw (z, e) (ap (onward (stops c n) (size_of c)) (length-placed c whole)))
      (λ (b : r < runs c).
      let up : end_before c.ends r < end_of c r = rise r b in
      let some : runs c - r ≡ suc (runs c - suc r) = omega arith in
      let more = stops-from n (suc r) b (omega arith) in
      ap (onward (stops c n) (end_before c.ends r)) (run-placed r b)
      ∙ rw (some, ne_eqb (end_of c r - end_before c.ends r) 0 (λ e. omega arith), on-by r b, more))
      (eq-or-lt_of_le l)

  -- walking from 0 by what follows meets each run once, in order, at its first index
  pub walk_is : (n : ℕ) → runs c ≤ n → stops c n 0 ≡ each_run c 0 (runs c)
  walk_is n l = ap (stops c n) (before-zero c.ends {r = 0} refl) ∙ stops-from n 0 (omega arith) (omega arith) ∙ ap (each_run c 0) all
    where
      all : runs c - 0 ≡ runs c
      all = omega arith

  -- its runs are 0, 1, .. and so on below the run count
  pub walk-runs : (n : ℕ) → runs c ≤ n → map (λ (s : Stop). s.place.run) (stops c n 0) ≡ numbers 0 (runs c)
  unfolding each_run numbers
  walk-runs n l = rw (walk_is n l) (each (runs c) 0)
    where
      each : (n r : ℕ) → map (λ (s : Stop). s.place.run) (each_run c r n) ≡ numbers r n
      each zero r = refl
      each (suc n) r = ap (λ rest. r ∷ rest) (each n (suc r))

  -- it ends at the length
  pub walk_ends : (n : ℕ) → runs c ≤ n → reached 0 (stops c n 0) ≡ size_of c
  unfolding reached each_run
  walk_ends n l = rw (walk_is n l) (ap (λ i. reached i (each_run c 0 (runs c))) (before-zero c.ends {r = 0} refl) ∙ each (runs c) 0 (omega arith))
    where
      each : (n r : ℕ) → r + n ≡ runs c → reached (end_before c.ends r) (each_run c r n) ≡ size_of c
      each zero r e = let here : r ≡ runs c = omega arith in ap (end_before c.ends) here
      each (suc n) r e = ap (λ i. reached i (each_run c (suc r) n)) (on-by r (omega arith)) ∙ each n (suc r) (omega arith)
