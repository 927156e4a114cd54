-- The elements of a run in a window are a strip of what the column carries. Assumes nothing.
use Prim.Native.Nat.{ℕ, suc, ◌+◌, ◌*◌, ◌-◌, ◌/◌, ◌≤◌, ◌<◌}
use mathlib.Core.Path.{◌≡◌, sym, ap, ◌∙◌}
use mathlib.Core.Logic.{⊎_elim}
use mathlib.Core.Bool.{true, false, not}
use native.Mathlib.Omega.{arith}
use native.Mathlib.Nat.{le_refl, mul-add, mul-suc, mul-le-mul_left, mul-div-le, lt-mul-div-succ}
use borrow.Author.Tests.{ltb-true}
use lib.Dec.{ltb}
use lib.IntN.{nat_abs}
use Rattle.ranges.proofs.Bools.{and_right}
use Rattle.ranges.proofs.Spans.{lt-or-ge}
use Rattle.keys.specs.Key.{key, down}
use Rattle.keys.specs.Widths.{half64}
use Rattle.meaning.specs.Column.{Column, runs, start_of, step_of, sequence_of}
use Rattle.meaning.proofs.Soundness.{Sound, sound-parts}
use Rattle.bits.proofs.Next.{Nowhere}
use Rattle.recorded.specs.Records.{carries_record}
use Rattle.recorded.specs.Inner.{first_at, more_of, floor_of}
use Rattle.recorded.proofs.Fitting.{fit_at, fit-up, fit-key}
use Rattle.recorded.proofs.Carried.{run_inside}
use Rattle.recorded.proofs.Floors.{floor-first, floor-next, floor-up, floors-rise, carried_on, carried-off, carried-past}
use Rattle.profiles.specs.Inner.{Fits, RunIs, Below, Strip, Covers, nearest}

-- ---- how many numbers of a run are below a number

module _ (first step more x : ℕ) where
  pub below_none : x ≤ first → Below first step more x 0
  below_none l = record { to = omega arith; under = λ k m. absurd (omega arith); over = λ m. omega arith }

  pub below_all : first + step * more < x → Below first step more x (more + 1)
  below_all l = record {
    to = omega arith;
    under = λ k m. let g : step * k ≤ step * more = mul-le-mul_left step (omega arith) in omega arith;
    over = λ m. absurd (omega arith);
  }

  pub below-some : 0 < step → first < x → x ≤ first + step * more → Below first step more x ((x - first - 1) / step + 1)
  below-some up l m =
      let q : ℕ = (x - first - 1) / step in
      let low : step * q ≤ x - first - 1 = mul-div-le (x - first - 1) step in
      let high : x - first - 1 < step * (q + 1) = lt-mul-div-succ (x - first - 1) up in
      let few : q < more = ⊎_elim (λ (u : q < more). u) (λ (u : more ≤ q). let g : step * more ≤ step * q = mul-le-mul_left step u in absurd (omega arith)) (lt-or-ge q more) in
      record {
        to = omega arith;
        under = λ k u. let g : step * k ≤ step * q = mul-le-mul_left step (omega arith) in omega arith;
        over = λ u. omega arith;
      }

-- ---- a run in a window

pub some_more : (x y : ℕ) → (x ≡ 0 → ⊥) → x ≡ y → 0 < y
some_more x y n e = ⊎_elim (λ (l : y < 1). let z : x ≡ 0 = omega arith in absurd (n z)) (λ (l : 1 ≤ y). l) (lt-or-ge y 1)

-- of a run of one any step can be told
pub by_one : (d more k : ℕ) → more ≡ 0 → k ≤ more → 1 * k ≡ d * k
by_one d more k e l = let z : k ≡ 0 = omega arith in rw z (omega arith)

-- what lies between two records of a window
near-from : (from to x i : ℕ) → nearest from to x ≤ i → i < to → (from ≤ i) × (x ≤ i)
near-from from to x i l m = (omega arith, omega arith)

near-to : (from to x i : ℕ) → i < nearest from to x → (i < to) × (from ≤ i → i < x)
near-to from to x i l = (omega arith, λ m. omega arith)

module _ (c : Column) (count : ℕ) (fits : Fits c count) (from to : ℕ) where
  abbrev good : Sound c
  good = sound-parts c fits.is-sound

  -- where run r's floor lies in the window
  abbrev edge : ℕ → ℕ
  edge r = nearest from to (floor_of c r)

  pub edges-rise : (r : ℕ) → r < runs c → edge r ≤ edge (suc r)
  edges-rise r l = omega (arith, floors-rise c good count fits.all-fit r (suc r) (omega arith) l)

  -- a run of two or more goes up
  pub run_up : (r : ℕ) → r < runs c → 0 < more_of c r → 0 < nat_abs (step_of c r)
  run_up r l m = ltb-true 0 (nat_abs (step_of c r)) (and_right (not (down (step_of c r))) (ltb 0 (nat_abs (step_of c r))) (fit-up (start_of c r) (step_of c r) (more_of c r) (floor_of c r) count (fit_at c good count fits.all-fit r l) m))

  -- it begins at 0 or above
  pub run-key : (r : ℕ) → r < runs c → half64 ≤ key half64 (start_of c r)
  run-key r l = fit-key (start_of c r) (step_of c r) (more_of c r) (floor_of c r) count (fit_at c good count fits.all-fit r l)

  -- before the first run of the window, and past the last
  module _ (begin stop : ℕ) (w : Covers c.starts from to begin stop) where
    pub in-runs : (r : ℕ) → r < stop → r < runs c
    in-runs r l = omega (arith, w.inside, good.shaped.starts-long)

    low : floor_of c begin ≤ from
    unfolding floor_of
    low = ⊎_elim
        (λ (u : begin < 1). let e : begin ≡ 0 = omega arith in rw e (omega arith))
        (λ (u : 1 ≤ begin). omega (arith, floor-first c good count fits.all-fit begin (omega (arith, (w.before u).0, good.shaped.starts-long)), (w.before u).1))
        (lt-or-ge begin 1)

    pub edge-first : from ≤ to → edge begin ≡ from
    edge-first l = omega (arith, low)

    pub edge-last : Nowhere (carries_record (sequence_of c)) (edge stop) to
    edge-last i l m = ⊎_elim
        (λ (u : stop < runs c).
        let first : to ≤ first_at (start_of c stop) = w.after (omega (arith, good.shaped.starts-long)) in
        carried-off c good count fits.all-fit stop i u (near-from from to (floor_of c stop) i l m).1 (omega (arith, floor-up c good count fits.all-fit stop 0 (omega arith))) (λ j t e. absurd (omega arith)))
        (λ (u : runs c ≤ stop). let e : stop ≡ runs c = omega (arith, w.inside, good.shaped.starts-long) in
        carried-past c good count fits.all-fit i (omega (arith, ap (floor_of c) e, (near-from from to (floor_of c stop) i l m).1)))
        (lt-or-ge stop (runs c))

  module _ (r first step more : ℕ) (there : r < runs c) (run : RunIs c r first step more) where
    -- its last element is a record number
    pub run-last : first + step * more < count
    run-last = omega (arith, run.is-first, run.by more (le_refl more), ap (λ x. nat_abs (step_of c r) * x) run.is-more, run_inside c good count fits.all-fit r there)

    floor-after : floor_of c (suc r) ≡ suc (first + step * more)
    floor-after = floor-next c good count fits.all-fit r ∙ (let e : first_at (start_of c r) + nat_abs (step_of c r) * more_of c r ≡ first + step * more = omega (arith, run.is-first, run.by more (le_refl more), ap (λ x. nat_abs (step_of c r) * x) run.is-more) in ap suc e)

    -- as the column has it
    number : (k : ℕ) → k ≤ more → first_at (start_of c r) + nat_abs (step_of c r) * k ≡ first + step * k
    number k l = omega (arith, run.is-first, run.by k l)

    module _ (order : from ≤ to) (skip take : ℕ) (a : Below first step more from skip) (b : Below first step more to take) where
      pub skip-take : skip ≤ take
      skip-take = ⊎_elim (λ (u : take < skip). absurd (omega (arith, a.under take u, b.over (omega (arith, a.to)), a.to))) (λ (u : skip ≤ take). u) (lt-or-ge take skip)

      from-skip : (k : ℕ) → first + step * skip + step * k ≡ first + step * (skip + k)
      from-skip k = omega (arith, mul-add step skip k)

      pub taken : step * take ≤ step * more + step
      taken = let g : step * take ≤ step * suc more = mul-le-mul_left step b.to in omega (arith, mul-suc step more)

      on : (k : ℕ) → k < take - skip → carries_record (sequence_of c) (first + step * skip + step * k) ≡ true
      on k l =
          let u : skip + k ≤ more = omega (arith, b.to) in
          ap (carries_record (sequence_of c)) (from-skip k ∙ sym (number (skip + k) u)) ∙ carried_on c good count fits.all-fit r (skip + k) there (omega (arith, run.is-more))

      off : (i : ℕ) → edge r ≤ i → i < edge (suc r) → ((k : ℕ) → k < take - skip → i ≡ first + step * skip + step * k → ⊥) → carries_record (sequence_of c) i ≡ false
      off i l u f =
          let w = near-to from to (floor_of c (suc r)) i u in
          carried-off c good count fits.all-fit r i there low.1 (w.1 low.0) no
        where
          low : (from ≤ i) × (floor_of c r ≤ i)
          low = near-from from to (floor_of c r) i l (near-to from to (floor_of c (suc r)) i u).0

          end : i < to
          end = (near-to from to (floor_of c (suc r)) i u).0

          no : (j : ℕ) → j ≤ more_of c r → i ≡ first_at (start_of c r) + nat_abs (step_of c r) * j → ⊥
          no j m e =
              let w : j ≤ more = omega (arith, run.is-more) in
              let is : i ≡ first + step * j = e ∙ number j w in
              ⊎_elim
              (λ (s : j < skip). absurd (omega (arith, a.under j s, low.0)))
              (λ (s : skip ≤ j). ⊎_elim
              (λ (t : j < take). let g : skip + (j - skip) ≡ j = omega arith in f (j - skip) (omega arith) (is ∙ sym (from-skip (j - skip) ∙ ap (λ x. first + step * x) g)))
              (λ (t : take ≤ j). let g : step * take ≤ step * j = mul-le-mul_left step t in absurd (omega (arith, end, b.over (omega arith))))
              (lt-or-ge j take))
              (lt-or-ge j skip)

      inside : 0 < take - skip → (edge r ≤ first + step * skip) × (first + step * skip + step * (take - skip - 1) < edge (suc r))
      inside some =
          let w : skip ≤ more = omega (arith, b.to) in
          let n : ℕ = take - 1 in
          let g : skip + (take - skip - 1) ≡ n = omega arith in
          let e : first + step * skip + step * (take - skip - 1) ≡ first + step * n = from-skip (take - skip - 1) ∙ ap (λ x. first + step * x) g in
          let t : step * n ≤ step * more = mul-le-mul_left step (omega (arith, b.to)) in (
            omega (arith, a.over w, floor-first c good count fits.all-fit r there, run.is-first),
            omega (arith, b.under n (omega arith), floor-after),
          )

      pub strip-at : Strip (carries_record (sequence_of c)) (edge r) (edge (suc r)) (first + step * skip) step (take - skip)
      strip-at = record {
        inside = inside;
        on = on;
        off = off;
        up = run.up;
        near = let g : skip + (take - skip) ≡ take = omega (arith, skip-take) in omega (arith, from-skip (take - skip) ∙ ap (λ x. first + step * x) g, taken, run-last, fits.few, run.up);
      }
