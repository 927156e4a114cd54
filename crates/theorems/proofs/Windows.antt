-- A window that rises: the order of its elements, and which bounds they meet. Assumes nothing.
use Prim.Native.Nat.{ℕ, zero, suc, ◌-◌, ◌≤◌, ◌<◌}
use mathlib.Core.Path.{◌≡◌, refl, sym}
use mathlib.Core.Bool.{true}
use mathlib.Core.Logic.{⊎_elim}
use native.Mathlib.Omega.{arith}
use native.Mathlib.Nat.{eq-or-lt_of_le}
use lib.Signed.{lt_z}
use Rattle.ranges.proofs.Order.{lt_trans}
use Rattle.ranges.proofs.Spans.{in_all}
use Rattle.meaning.specs.Sequence.{Sequence, rises}
use Rattle.bounds.specs.declared.Limit.{Limit}
use Rattle.bounds.specs.declared.Limit.TheVariants.{Free, To}
use Rattle.bounds.specs.Bounds.{within, above}
use Rattle.theorems.proofs.Bounds.{lower-up, upper-down}

module _ (q : Sequence) (s e : ℕ) (rise : rises q s e ≡ true) where
  one-step : (k : ℕ) → s ≤ k → suc k < e → lt_z (q.at k) (q.at (suc k)) ≡ true
  unfolding rises
  one-step k l m = in_all (λ i. lt_z (q.at i) (q.at (suc i))) s (e - 1) rise k l (omega arith)

  -- an element is above each one before it
  pub climbs : (i j : ℕ) → s ≤ i → i < j → j < e → lt_z (q.at i) (q.at j) ≡ true
  climbs i zero l m n = absurd (omega arith)
  climbs i (suc j) l m n =
      let h : i ≤ j = omega arith in
      ⊎_elim (λ (g : i ≡ j). rw g (one-step j (omega arith) n))
      (λ (g : i < j). lt_trans (q.at i) (q.at j) (q.at (suc j)) (climbs i j l g (omega arith)) (one-step j (omega arith) n))
      (eq-or-lt_of_le h)

  -- what is before an element within a limit is within it
  pub within-back : (up : Limit) (i j : ℕ) → s ≤ i → i ≤ j → j < e → within up (q.at j) ≡ true → within up (q.at i) ≡ true
  within-back Free i j l m n h = refl
  within-back (To b) i j l m n h =
      ⊎_elim (λ (g : i ≡ j). rw g h) (λ (g : i < j). upper-down (q.at i) (q.at j) b (climbs i j l g n) h) (eq-or-lt_of_le m)

  -- what is after an element above a limit is above it
  pub above_on : (low : Limit) (i j : ℕ) → s ≤ i → i ≤ j → j < e → above low (q.at i) ≡ true → above low (q.at j) ≡ true
  above_on Free i j l m n h = refl
  above_on (To b) i j l m n h =
      ⊎_elim (λ (g : i ≡ j). rw (sym g) h) (λ (g : i < j). lower-up (q.at i) (q.at j) b (climbs i j l g n) h) (eq-or-lt_of_le m)
