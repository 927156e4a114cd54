-- Between the floors of two runs only the numbers of the first are carried, and none is past the last. Assumes nothing.
use Prim.Native.Nat.{ℕ, zero, suc, ◌+◌, ◌*◌, ◌-◌, ◌≤◌, ◌<◌}
use mathlib.Core.Path.{◌≡◌, refl, sym, ap, ◌∙◌}
use mathlib.Core.Logic.{⊎_elim}
use mathlib.Core.Bool.{true, false}
use native.Mathlib.Omega.{arith}
use native.Mathlib.Nat.{le_refl, mul-le-mul_left}
use lib.IntN.{pos, nat_abs}
use Rattle.ranges.proofs.Bools.{either}
use Rattle.ranges.proofs.Spans.{lt-or-ge}
use Rattle.meaning.specs.Column.{Column, runs, start_of, step_of, end_of, end_before, run_of, element_at, sequence_of}
use Rattle.meaning.proofs.Runs.{run-there, run-above, run-from, end-le-before}
use Rattle.meaning.proofs.Soundness.{Sound}
use Rattle.meaning.proofs.Carried.{carries-exactly-if}
use Rattle.recorded.specs.Records.{carries_record}
use Rattle.recorded.specs.Inner.{first_at, more_of, floor_of, all_fit}
use Rattle.recorded.proofs.Fitting.{fit_at, fit-from}
use Rattle.recorded.proofs.Carried.{element-in}

module _ (c : Column) (good : Sound c) (count : ℕ) (fit : all_fit c count ≡ true) where
  -- the number at an offset of run r
  abbrev at : ℕ → ℕ → ℕ
  at r j = first_at (start_of c r) + nat_abs (step_of c r) * j

  -- ---- floors

  pub floor-first : (r : ℕ) → r < runs c → floor_of c r ≤ first_at (start_of c r)
  floor-first r l = (fit-from (start_of c r) (step_of c r) (more_of c r) (floor_of c r) count (fit_at c good count fit r l)).1

  pub floor-next : (r : ℕ) → floor_of c (suc r) ≡ suc (at r (more_of c r))
  unfolding floor_of
  floor-next r = refl

  pub floor-up : (r j : ℕ) → j ≤ more_of c r → at r j < floor_of c (suc r)
  floor-up r j m = omega (arith, floor-next r, mul-le-mul_left (nat_abs (step_of c r)) m)

  floor-on : (d r : ℕ) → r + d ≤ runs c → floor_of c r ≤ floor_of c (r + d)
  floor-on zero r l = let e : r ≡ r + 0 = omega arith in rw (← e) (le_refl (floor_of c r))
  floor-on (suc d) r l =
      let e : suc r + d ≡ r + suc d = omega arith in
      rw (← e) (omega (arith, floor-first r (omega arith), floor-up r 0 (omega arith), floor-on d (suc r) (omega arith)))

  pub floors-rise : (r s : ℕ) → r ≤ s → s ≤ runs c → floor_of c r ≤ floor_of c s
  floors-rise r s l m = let e : r + (s - r) ≡ s = omega arith in rw e at (floor-on (s - r) r (omega arith))

  -- ---- what is carried

  pub carried_on : (r j : ℕ) → r < runs c → j ≤ more_of c r → carries_record (sequence_of c) (at r j) ≡ true
  carried_on r j l m =
      (carries-exactly-if (sequence_of c) (pos (at r j))).1
      (end_before c.ends r + j, omega arith, omega (arith, good.up r l, end-le-before c.ends good.up r (runs c) l (le_refl (runs c))), element-in c good count fit r j l (omega (arith, good.up r l)))

  -- where
  pub record Spot (i : ℕ) : Type 0 where
    pub run : ℕ
    pub offset : ℕ
    pub there : run < runs c
    pub in-run : offset ≤ more_of c run
    pub is : i ≡ at run offset

  same-pos : (x y : ℕ) → pos x ≡ pos y → x ≡ y
  same-pos x y e = ap nat_abs e

  pub carried-at : (i : ℕ) → carries_record (sequence_of c) i ≡ true → Spot i
  carried-at i h =
      let w = (carries-exactly-if (sequence_of c) (pos i)).0 h in
      let x : ℕ = w.0 in
      let r : ℕ = run_of c.ends x in
      let l : r < runs c = run-there c.ends x w.2 in
      let under : x < end_of c r = run-above c.ends x l in
      let from : end_before c.ends r ≤ x = run-from c.ends x in
      let e : end_before c.ends r + (x - end_before c.ends r) ≡ x = omega arith in
      record {
        run = r;
        offset = x - end_before c.ends r;
        there = l;
        in-run = omega arith;
        is = same-pos i (at r (x - end_before c.ends r)) (sym w.3 ∙ ap (element_at c) (sym e) ∙ element-in c good count fit r (x - end_before c.ends r) l (omega arith));
      }

  -- from run r's floor on, below the next one, nothing but its numbers
  pub carried-off : (r i : ℕ) → r < runs c → floor_of c r ≤ i → i < floor_of c (suc r) → ((j : ℕ) → j ≤ more_of c r → i ≡ at r j → ⊥) → carries_record (sequence_of c) i ≡ false
  carried-off r i l a b f = either (carries_record (sequence_of c) i) (λ t. absurd (no (carried-at i t))) (λ t. t)
    where
      no : Spot i → ⊥
      no s = ⊎_elim
          (λ (u : s.run < r). absurd (omega (arith, floors-rise (suc s.run) r u (omega arith), floor-up s.run s.offset s.in-run, s.is)))
          (λ (u : r ≤ s.run). ⊎_elim
          (λ (v : r < s.run). absurd (omega (arith, floors-rise (suc r) s.run v (omega (arith, s.there)), floor-first s.run s.there, s.is)))
          (λ (v : s.run ≤ r). let e : s.run ≡ r = omega arith in f s.offset (rw e at s.in-run) (s.is ∙ ap (λ x. at x s.offset) e))
          (lt-or-ge r s.run))
          (lt-or-ge s.run r)

  -- past the last run nothing
  pub carried-past : (i : ℕ) → floor_of c (runs c) ≤ i → carries_record (sequence_of c) i ≡ false
  carried-past i a = either (carries_record (sequence_of c) i) (λ t. absurd (no (carried-at i t))) (λ t. t)
    where
      no : Spot i → ⊥
      no s = omega (arith, floors-rise (suc s.run) (runs c) s.there (le_refl (runs c)), floor-up s.run s.offset s.in-run, s.is)
