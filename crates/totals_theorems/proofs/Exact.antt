-- "Given exactly if", for the totals, in the order of document 02's request 11: 1, 2, 3, 8, 5, 18, 10. Assumes nothing.
use Prim.Native.Nat.{ℕ}
use mathlib.Core.Path.{◌≡◌, sym, ◌∙◌}
use mathlib.Core.Bool.{true, false}
use mathlib.Core.List.{List, [], ◌∷◌}
use mathlib.Core.Logic.Iff
use mathlib.Core.Logic.{◌↔◌}
use lib.ListN.{length}
use Rattle.ranges.proofs.Bools.{In}
use Rattle.ranges.proofs.Reading.{reading, choosing}
use Rattle.meaning.specs.Refusals.{Said, Gives, Number}
use Rattle.meaning.specs.Sequence.{Source}
use Rattle.meaning.proofs.Judging.{gives-clear}
use Rattle.meaning.proofs.Tried.{refuses, refused-exactly, refused-in, given-exactly, clear-gives}
use Rattle.totals.specs.declared.Total.{Total}
use Rattle.totals.specs.Totals.{sum_of, has_high, total_of}
use Rattle.totals.specs.Windows.{elements_over, unfit, ends_within, short, totals_of}

given-same : {A : Type 0} {a b : A} → Gives a ≡ Gives b → a ≡ b
given-same e = cc

module _ (p : Source) (ss es rooms : List ℕ) where
  abbrev answer : Said Total
  answer = totals_of p ss es rooms

  pub totals-refuses-1 : (answer ≡ Number 1) ↔ (p.shape ≡ true)
  unfolding totals_of refuses
  totals-refuses-1 = Iff.trans (refused-exactly _ 1 _) (simp choosing Iff.rfl)

  pub totals-refuses-2 : (answer ≡ Number 2) ↔ ((p.shape ≡ false) × (p.ends ≡ true))
  unfolding totals_of refuses
  totals-refuses-2 = Iff.trans (refused-exactly _ 2 _) (simp choosing (simp reading Iff.rfl))

  pub totals-refuses-3 : (answer ≡ Number 3) ↔ ((p.shape ≡ false) × (p.ends ≡ false) × (p.reach ≡ true))
  unfolding totals_of refuses
  totals-refuses-3 = Iff.trans (refused-exactly _ 3 _) (simp choosing (simp reading Iff.rfl))

  -- 1, 2 and 3 are not given
  abbrev Checked : Type 0
  Checked = (p.shape ≡ false) × (p.ends ≡ false) × (p.reach ≡ false)

  pub totals-refuses-8 : (answer ≡ Number 8) ↔ (Checked × (unfit ss es ≡ true))
  unfolding totals_of refuses
  totals-refuses-8 = Iff.trans (refused-exactly _ 8 _) (simp choosing (simp reading Iff.rfl))

  pub totals-refuses-5 : (answer ≡ Number 5) ↔ (Checked × (unfit ss es ≡ false) × (ends_within p.sequence.size ss es ≡ false))
  unfolding totals_of refuses
  totals-refuses-5 = Iff.trans (refused-exactly _ 5 _) (simp choosing (simp reading Iff.rfl))

  -- 8 and 5 are not given
  abbrev Fit : Type 0
  Fit = (unfit ss es ≡ false) × (ends_within p.sequence.size ss es ≡ true)

  abbrev High : Type 0
  High = has_high (sum_of (elements_over p.sequence ss es)) ≡ true

  pub totals-refuses-18 : (answer ≡ Number 18) ↔ (Checked × Fit × (has_high (sum_of (elements_over p.sequence ss es)) ≡ false))
  unfolding totals_of refuses
  totals-refuses-18 = Iff.trans (refused-exactly _ 18 _) (simp choosing (simp reading Iff.rfl))

  pub totals-refuses-10 : (answer ≡ Number 10) ↔ (Checked × Fit × High × (short (length ss) rooms ≡ true))
  unfolding totals_of refuses
  totals-refuses-10 = Iff.trans (refused-exactly _ 10 _) (simp choosing (simp reading Iff.rfl))

  -- no other number is given
  pub totals-numbers : (n : ℕ) → answer ≡ Number n → In n (1 ∷ 2 ∷ 3 ∷ 8 ∷ 5 ∷ 18 ∷ 10 ∷ [])
  unfolding totals_of
  totals-numbers n h = refused-in _ n _ h

  -- accepted exactly if none holds
  pub totals-accepts : ((t : Total) × (answer ≡ Gives t)) ↔ (Checked × Fit × High × (short (length ss) rooms ≡ false))
  unfolding totals_of
  totals-accepts = Iff.trans (given-exactly _ _) (simp reading Iff.rfl)

  -- and then the answer is the total of all elements of all windows
  pub totals-gives : (t : Total) → answer ≡ Gives t → t ≡ total_of (elements_over p.sequence ss es)
  unfolding totals_of
  totals-gives t h = given-same (sym h ∙ clear-gives Number _ _ (gives-clear _ t _ h))
