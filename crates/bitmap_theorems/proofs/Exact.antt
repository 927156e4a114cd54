-- "Given exactly if", for import and export, in the order of document 02's request 3. Assumes nothing.
use Prim.Native.Nat.{ℕ, ◌≤◌, ◌<◌}
use mathlib.Core.Path.{◌≡◌, sym, ◌∙◌}
use mathlib.Core.Bool.{true, false}
use mathlib.Core.List.{List, [], ◌∷◌}
use mathlib.Core.Logic.Iff
use mathlib.Core.Logic.{◌↔◌, ◌⊎◌}
use lib.ListN.{length}
use Rattle.ranges.proofs.Bools.{In}
use Rattle.ranges.proofs.Reading.{reading, choosing, any_below}
use Rattle.meaning.specs.Refusals.{Said, Gives, Number}
use Rattle.meaning.specs.Sequence.{Source, rises}
use Rattle.meaning.proofs.Judging.{gives-clear}
use Rattle.meaning.proofs.Tried.{refuses, refused-exactly, refused-in, given-exactly, clear-gives}
use Rattle.bits.specs.Bitmap.{present, count_for, bytes_for}
use Rattle.build.specs.Rule.{runs_of}
use Rattle.recorded.specs.Records.{all_records}
use Rattle.exporting.specs.Export.{export_of}
use Rattle.importing.specs.Import.{present_in, Imports, import_of}

given-same : {A : Type 0} {a b : A} → Gives a ≡ Gives b → a ≡ b
given-same e = cc

-- ---- import

module _ (bytes : List ℕ) (count starts ends steps : ℕ) where
  abbrev said : Said Imports
  said = import_of bytes count starts ends steps

  -- how many runs the rule needs
  abbrev need : ℕ
  need = length (runs_of (present_in bytes count))

  pub import-refuses-14 : (said ≡ Number 14) ↔ (524288 < count)
  unfolding import_of refuses
  import-refuses-14 = Iff.trans (refused-exactly _ 14 _) (simp choosing (simp reading Iff.rfl))

  pub import-refuses-11 : (said ≡ Number 11) ↔ ((count ≤ 524288) × (length bytes < bytes_for count))
  unfolding import_of refuses
  import-refuses-11 = Iff.trans (refused-exactly _ 11 _) (simp choosing (simp reading Iff.rfl))

  pub import-refuses-1 : (said ≡ Number 1) ↔ ((count ≤ 524288) × (bytes_for count ≤ length bytes) × (4096 < need))
  unfolding import_of refuses
  import-refuses-1 = Iff.trans (refused-exactly _ 1 _) (simp choosing (simp reading Iff.rfl))

  pub import-refuses-10 : (said ≡ Number 10) ↔ ((count ≤ 524288) × (bytes_for count ≤ length bytes) × (need ≤ 4096) × ((starts < need) ⊎ (ends < need) ⊎ (steps < need)))
  unfolding import_of refuses
  import-refuses-10 = Iff.trans (refused-exactly _ 10 _) (simp choosing (simp (reading, any_below) Iff.rfl))

  -- no other number is given
  pub import-numbers : (n : ℕ) → said ≡ Number n → In n (14 ∷ 11 ∷ 1 ∷ 10 ∷ [])
  unfolding import_of
  import-numbers n h = refused-in _ n _ h

  -- accepted exactly if none holds
  pub import-accepts : ((r : Imports) × (said ≡ Gives r)) ↔ ((count ≤ 524288) × (bytes_for count ≤ length bytes) × (need ≤ 4096) × ((need ≤ starts) × (need ≤ ends) × (need ≤ steps)))
  unfolding import_of
  import-accepts = Iff.trans (given-exactly _ _) (simp reading Iff.rfl)

  -- and then the answer is the run count, and the number of records that are present
  pub import-gives : (r : Imports) → said ≡ Gives r → r ≡ record { runs = length (runs_of (present_in bytes count)); ones = count_for (present bytes) 0 count }
  unfolding import_of
  import-gives r h = given-same (sym h ∙ clear-gives Number _ _ (gives-clear _ r _ h))

-- ---- export

module _ (p : Source) (count room : ℕ) where
  abbrev answer : Said ℕ
  answer = export_of p count room

  pub export-refuses-14 : (answer ≡ Number 14) ↔ (524288 < count)
  unfolding export_of refuses
  export-refuses-14 = Iff.trans (refused-exactly _ 14 _) (simp choosing (simp reading Iff.rfl))

  pub export-refuses-1 : (answer ≡ Number 1) ↔ ((count ≤ 524288) × (p.shape ≡ true))
  unfolding export_of refuses
  export-refuses-1 = Iff.trans (refused-exactly _ 1 _) (simp choosing (simp reading Iff.rfl))

  pub export-refuses-2 : (answer ≡ Number 2) ↔ ((count ≤ 524288) × (p.shape ≡ false) × (p.ends ≡ true))
  unfolding export_of refuses
  export-refuses-2 = Iff.trans (refused-exactly _ 2 _) (simp choosing (simp reading Iff.rfl))

  pub export-refuses-3 : (answer ≡ Number 3) ↔ ((count ≤ 524288) × (p.shape ≡ false) × (p.ends ≡ false) × (p.reach ≡ true))
  unfolding export_of refuses
  export-refuses-3 = Iff.trans (refused-exactly _ 3 _) (simp choosing (simp reading Iff.rfl))

  -- 1, 2 and 3 are not given
  abbrev Checked : Type 0
  Checked = (p.shape ≡ false) × (p.ends ≡ false) × (p.reach ≡ false)

  abbrev rising : Type 0
  rising = rises p.sequence 0 p.sequence.size ≡ true

  pub export-refuses-7 : (answer ≡ Number 7) ↔ ((count ≤ 524288) × Checked × (rises p.sequence 0 p.sequence.size ≡ false))
  unfolding export_of refuses
  export-refuses-7 = Iff.trans (refused-exactly _ 7 _) (simp choosing (simp reading Iff.rfl))

  pub export-refuses-15 : (answer ≡ Number 15) ↔ ((count ≤ 524288) × Checked × rising × (all_records count p.sequence ≡ false))
  unfolding export_of refuses
  export-refuses-15 = Iff.trans (refused-exactly _ 15 _) (simp choosing (simp reading Iff.rfl))

  pub export-refuses-10 : (answer ≡ Number 10) ↔ ((count ≤ 524288) × Checked × rising × (all_records count p.sequence ≡ true) × (room < bytes_for count))
  unfolding export_of refuses
  export-refuses-10 = Iff.trans (refused-exactly _ 10 _) (simp choosing (simp reading Iff.rfl))

  pub export-numbers : (n : ℕ) → answer ≡ Number n → In n (14 ∷ 1 ∷ 2 ∷ 3 ∷ 7 ∷ 15 ∷ 10 ∷ [])
  unfolding export_of
  export-numbers n h = refused-in _ n _ h

  pub export-accepts : ((n : ℕ) × (answer ≡ Gives n)) ↔ ((count ≤ 524288) × Checked × rising × (all_records count p.sequence ≡ true) × (bytes_for count ≤ room))
  unfolding export_of
  export-accepts = Iff.trans (given-exactly _ _) (simp reading Iff.rfl)

  pub export-gives : (n : ℕ) → answer ≡ Gives n → n ≡ bytes_for count
  unfolding export_of
  export-gives n h = given-same (sym h ∙ clear-gives Number _ _ (gives-clear _ n _ h))
