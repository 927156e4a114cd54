-- Which records the runs of a column carry, run by run. Assumes nothing.
use Prim.Native.Nat.{ℕ, ◌+◌, ◌*◌, ◌-◌, ◌≤◌, ◌<◌}
use mathlib.Core.Path.{◌≡◌, refl, sym, ap, ◌∙◌}
use mathlib.Core.Logic.{⊎_elim}
use mathlib.Core.Bool.{Bool, true, false, not, ◌||◌}
use native.Mathlib.Omega.{arith}
use borrow.Author.Tests.{not-false, lt-ltb, le-ltb, eqb-true, eqb-false}
use lib.Dec.{eqb}
use lib.IntN.{pos, nat_abs}
use Rattle.ranges.specs.Ranges.{all_for, all_in}
use Rattle.ranges.proofs.Bools.{either, clash, or_left, or_right, not-no, not_yes}
use Rattle.ranges.proofs.Spans.{in_all, all-in, lt-or-ge}
use Rattle.meaning.specs.Sequence.{same_z, carries}
use Rattle.meaning.specs.Column.{Column, runs, size_of, start_of, step_of, end_of, end_before, offset, element_at, sequence_of}
use Rattle.meaning.proofs.Soundness.{Sound}
use Rattle.meaning.proofs.Rise.{at_in}
use Rattle.recorded.specs.Records.{carries_record}
use Rattle.recorded.specs.Inner.{some_in, in_steps, first_at, more_of, floor_of, all_fit}
use Rattle.recorded.proofs.Fitting.{fit_at, fit-run, fit-last}

-- ---- a test that holds somewhere, and nowhere

nowhere-at : (p : ℕ → Bool) (a b : ℕ) → some_in p a b ≡ false → (k : ℕ) → a ≤ k → k < b → p k ≡ false
nowhere-at p a b h k l m = not-no (p k) (in_all (λ i. not (p i)) a b (not-false (all_in (λ i. not (p i)) a b) h) k l m)

nowhere-if : (p : ℕ → Bool) (a b : ℕ) → ((k : ℕ) → a ≤ k → k < b → p k ≡ false) → some_in p a b ≡ false
nowhere-if p a b f = ap not (all-in (λ i. not (p i)) a b (λ k l m. not_yes (p k) (f k l m)))

same-off : (a b : Bool) → (a ≡ false → b ≡ false) → (b ≡ false → a ≡ false) → a ≡ b
same-off a b f g = either a (λ t. t ∙ sym (either b (λ u. u) (λ u. clash t (g u)))) (λ t. t ∙ sym (f t))

-- the same natural number
same-nat : (x i : ℕ) → same_z (pos x) (pos i) ≡ eqb i x
same-nat x i = either (eqb i x)
    (λ t. let e : i ≡ x = eqb-true i x t in rw (le-ltb x i (omega arith), le-ltb i x (omega arith), t))
    (λ t. ⊎_elim (λ (l : x < i). rw (lt-ltb x i l, t)) (λ (l : i ≤ x). rw (le-ltb x i l, lt-ltb i x (less t l), t)) (lt-or-ge x i))
  where
    less : eqb i x ≡ false → i ≤ x → i < x
    less t l = ⊎_elim (λ (m : i < x). m) (λ (m : x ≤ i). let e : i ≡ x = omega arith in absurd (eqb-false i x t e)) (lt-or-ge i x)

-- ---- run by run

-- record i is an element at an index below m
abbrev pub carries_to : Column → ℕ → ℕ → Bool
carries_to c m i = some_in (λ k. same_z (element_at c k) (pos i)) 0 m

pub carries-all : (c : Column) (i : ℕ) → carries_to c (size_of c) i ≡ carries_record (sequence_of c) i
unfolding carries
carries-all c i = refl

pub carries-before : (c : Column) (i : ℕ) → carries_to c (end_before c.ends 0) i ≡ false
unfolding end_before all_for
carries-before c i = refl

module _ (c : Column) (good : Sound c) (count : ℕ) (fit : all_fit c count ≡ true) where
  -- run r's last element is a record number
  pub run_inside : (r : ℕ) → r < runs c → first_at (start_of c r) + nat_abs (step_of c r) * more_of c r < count
  run_inside r l = fit-last (start_of c r) (step_of c r) (more_of c r) (floor_of c r) count (fit_at c good count fit r l)

  pub element-in : (r j : ℕ) → r < runs c → j < end_of c r - end_before c.ends r → element_at c (end_before c.ends r + j) ≡ pos (first_at (start_of c r) + nat_abs (step_of c r) * j)
  element-in r j l m =
      let e : end_before c.ends r + j - end_before c.ends r ≡ j = omega arith in
      at_in c good.up r (end_before c.ends r + j) l (omega arith) (omega arith) ∙ ap (λ k. offset (start_of c r) (step_of c r) k) e ∙ fit-run c good count fit r j l (omega arith)

  -- what the runs up to r carry: what those before it do, and its own numbers
  pub carries-next : (r n i : ℕ) → r < runs c → n ≡ end_of c r - end_before c.ends r
      → (carries_to c (end_before c.ends r) i || in_steps (first_at (start_of c r)) (nat_abs (step_of c r)) n i) ≡ carries_to c (end_of c r) i
  carries-next r n i l e = same-off _ _ there back
    where
      up : end_before c.ends r < end_of c r
      up = good.up r l

      here : (j : ℕ) → j < n → same_z (element_at c (end_before c.ends r + j)) (pos i) ≡ eqb i (first_at (start_of c r) + nat_abs (step_of c r) * j)
      here j u = ap (λ z. same_z z (pos i)) (element-in r j l (omega arith)) ∙ same-nat (first_at (start_of c r) + nat_abs (step_of c r) * j) i

      there : (carries_to c (end_before c.ends r) i || in_steps (first_at (start_of c r)) (nat_abs (step_of c r)) n i) ≡ false → carries_to c (end_of c r) i ≡ false
      there h = nowhere-if (λ k. same_z (element_at c k) (pos i)) 0 (end_of c r) (λ x z u. ⊎_elim
          (λ (v : x < end_before c.ends r). nowhere-at (λ k. same_z (element_at c k) (pos i)) 0 (end_before c.ends r) (or_left (carries_to c (end_before c.ends r) i) _ h) x z v)
          (λ (v : end_before c.ends r ≤ x).
          let g : x ≡ end_before c.ends r + (x - end_before c.ends r) = omega arith in
          ap (λ y. same_z (element_at c y) (pos i)) g ∙ here (x - end_before c.ends r) (omega arith)
          ∙ nowhere-at (λ k. eqb i (first_at (start_of c r) + nat_abs (step_of c r) * k)) 0 n (or_right (carries_to c (end_before c.ends r) i) _ h) (x - end_before c.ends r) (omega arith) (omega arith))
          (lt-or-ge x (end_before c.ends r)))

      back : carries_to c (end_of c r) i ≡ false → (carries_to c (end_before c.ends r) i || in_steps (first_at (start_of c r)) (nat_abs (step_of c r)) n i) ≡ false
      back h = rw (
        nowhere-if (λ k. same_z (element_at c k) (pos i)) 0 (end_before c.ends r) (λ x z u. nowhere-at (λ k. same_z (element_at c k) (pos i)) 0 (end_of c r) h x z (omega (arith, up))),
        nowhere-if (λ k. eqb i (first_at (start_of c r) + nat_abs (step_of c r) * k)) 0 n
            (λ j z u. sym (here j u) ∙ nowhere-at (λ k. same_z (element_at c k) (pos i)) 0 (end_of c r) h (end_before c.ends r + j) (omega arith) (omega arith)),
      )
