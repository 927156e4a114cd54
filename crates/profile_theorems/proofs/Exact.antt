-- "Given exactly if", for the calls of the reading profiles, in the order of document 02's request 7. Assumes nothing.
use Prim.Native.Nat.{ℕ, ◌≤◌, ◌<◌}
use mathlib.Core.Path.{◌≡◌, sym, ◌∙◌}
use mathlib.Core.Bool.{Bool, true, false, ◌||◌}
use mathlib.Core.List.{List, [], ◌∷◌}
use mathlib.Core.Logic.Iff
use mathlib.Core.Logic.{◌↔◌, ◌⊎◌}
use lib.Dec.{eqb}
use lib.ListN.{length}
use Rattle.ranges.proofs.Bools.{In}
use Rattle.ranges.proofs.Reading.{reading, choosing, equal, read-either}
use Rattle.meaning.specs.Refusals.{Said, Gives, Number}
use Rattle.meaning.specs.Sequence.{Source, rises}
use Rattle.meaning.proofs.Judging.{gives-clear}
use Rattle.meaning.proofs.Tried.{refuses, refused-exactly, refused-in, given-exactly, clear-gives}
use Rattle.recorded.specs.Records.{all_records}
use Rattle.profiles.specs.Profiles.{carries_field, carries_of, listed_of}

given-same : {A : Type 0} {a b : A} → Gives a ≡ Gives b → a ≡ b
given-same e = cc

-- one of two numbers
one_of_two : (a b c d : ℕ) → ((eqb a b || eqb c d) ≡ true) ↔ ((a ≡ b) ⊎ (c ≡ d))
one_of_two a b c d = read-either (eqb a b) (eqb c d) (equal a b) (equal c d)

module _ (profile count : ℕ) (p : Source) where
  -- there is a profile of that number
  abbrev pub Known : Type 0
  Known = (profile ≡ 1) ⊎ (profile ≡ 2)

  -- 1, 2 and 3 are not given
  abbrev pub Checked : Type 0
  Checked = (p.shape ≡ false) × (p.ends ≡ false) × (p.reach ≡ false)

  abbrev pub rising : Type 0
  rising = rises p.sequence 0 p.sequence.size ≡ true

  abbrev pub records : Type 0
  records = all_records count p.sequence ≡ true

-- ---- one record

module _ (profile count : ℕ) (p : Source) (i : ℕ) where
  abbrev answer : Said Bool
  answer = carries_of profile count p i

  pub carries-refuses-16 : (answer ≡ Number 16) ↔ ((profile ≡ 1 → ⊥) × (profile ≡ 2 → ⊥))
  unfolding carries_of refuses
  carries-refuses-16 = Iff.trans (refused-exactly _ 16 _) (simp choosing (simp (reading, one_of_two) Iff.rfl))

  pub carries-refuses-14 : (answer ≡ Number 14) ↔ (Known profile count p × (4294967295 < count))
  unfolding carries_of refuses
  carries-refuses-14 = Iff.trans (refused-exactly _ 14 _) (simp choosing (simp (reading, one_of_two) Iff.rfl))

  pub carries-refuses-1 : (answer ≡ Number 1) ↔ (Known profile count p × (count ≤ 4294967295) × (p.shape ≡ true))
  unfolding carries_of refuses
  carries-refuses-1 = Iff.trans (refused-exactly _ 1 _) (simp choosing (simp (reading, one_of_two) Iff.rfl))

  pub carries-refuses-2 : (answer ≡ Number 2) ↔ (Known profile count p × (count ≤ 4294967295) × (p.shape ≡ false) × (p.ends ≡ true))
  unfolding carries_of refuses
  carries-refuses-2 = Iff.trans (refused-exactly _ 2 _) (simp choosing (simp (reading, one_of_two) Iff.rfl))

  pub carries-refuses-3 : (answer ≡ Number 3) ↔ (Known profile count p × (count ≤ 4294967295) × (p.shape ≡ false) × (p.ends ≡ false) × (p.reach ≡ true))
  unfolding carries_of refuses
  carries-refuses-3 = Iff.trans (refused-exactly _ 3 _) (simp choosing (simp (reading, one_of_two) Iff.rfl))

  pub carries-refuses-7 : (answer ≡ Number 7) ↔ (Known profile count p × (count ≤ 4294967295) × Checked profile count p × (rises p.sequence 0 p.sequence.size ≡ false))
  unfolding carries_of refuses
  carries-refuses-7 = Iff.trans (refused-exactly _ 7 _) (simp choosing (simp (reading, one_of_two) Iff.rfl))

  pub carries-refuses-15 : (answer ≡ Number 15) ↔ (Known profile count p × (count ≤ 4294967295) × Checked profile count p × rising profile count p × (all_records count p.sequence ≡ false))
  unfolding carries_of refuses
  carries-refuses-15 = Iff.trans (refused-exactly _ 15 _) (simp choosing (simp (reading, one_of_two) Iff.rfl))

  pub carries-refuses-4 : (answer ≡ Number 4) ↔ (Known profile count p × (count ≤ 4294967295) × Checked profile count p × rising profile count p × records profile count p × (count ≤ i))
  unfolding carries_of refuses
  carries-refuses-4 = Iff.trans (refused-exactly _ 4 _) (simp choosing (simp (reading, one_of_two) Iff.rfl))

  -- no other number is given
  pub carries-numbers : (n : ℕ) → answer ≡ Number n → In n (16 ∷ 14 ∷ 1 ∷ 2 ∷ 3 ∷ 7 ∷ 15 ∷ 4 ∷ [])
  unfolding carries_of
  carries-numbers n h = refused-in _ n _ h

  -- accepted exactly if none holds, and then the answer is whether it carries the field
  pub carries-accepts : ((b : Bool) × (answer ≡ Gives b)) ↔ (Known profile count p × (count ≤ 4294967295) × Checked profile count p × rising profile count p × records profile count p × (i < count))
  unfolding carries_of
  carries-accepts = Iff.trans (given-exactly _ _) (simp (reading, one_of_two) Iff.rfl)

  pub carries-gives : (b : Bool) → answer ≡ Gives b → b ≡ carries_field profile p.sequence i
  unfolding carries_of
  carries-gives b h = given-same (sym h ∙ clear-gives Number _ _ (gives-clear _ b _ h))

-- ---- a list: of those that carry the field, or of those that don't

module _ (profile count : ℕ) (p : Source) (end places : ℕ) (list : List ℕ) where
  abbrev said : Said ℕ
  said = listed_of profile count p end places list

  pub list-refuses-16 : (said ≡ Number 16) ↔ ((profile ≡ 1 → ⊥) × (profile ≡ 2 → ⊥))
  unfolding listed_of refuses
  list-refuses-16 = Iff.trans (refused-exactly _ 16 _) (simp choosing (simp (reading, one_of_two) Iff.rfl))

  pub list-refuses-14 : (said ≡ Number 14) ↔ (Known profile count p × (4294967295 < count))
  unfolding listed_of refuses
  list-refuses-14 = Iff.trans (refused-exactly _ 14 _) (simp choosing (simp (reading, one_of_two) Iff.rfl))

  pub list-refuses-1 : (said ≡ Number 1) ↔ (Known profile count p × (count ≤ 4294967295) × (p.shape ≡ true))
  unfolding listed_of refuses
  list-refuses-1 = Iff.trans (refused-exactly _ 1 _) (simp choosing (simp (reading, one_of_two) Iff.rfl))

  pub list-refuses-2 : (said ≡ Number 2) ↔ (Known profile count p × (count ≤ 4294967295) × (p.shape ≡ false) × (p.ends ≡ true))
  unfolding listed_of refuses
  list-refuses-2 = Iff.trans (refused-exactly _ 2 _) (simp choosing (simp (reading, one_of_two) Iff.rfl))

  pub list-refuses-3 : (said ≡ Number 3) ↔ (Known profile count p × (count ≤ 4294967295) × (p.shape ≡ false) × (p.ends ≡ false) × (p.reach ≡ true))
  unfolding listed_of refuses
  list-refuses-3 = Iff.trans (refused-exactly _ 3 _) (simp choosing (simp (reading, one_of_two) Iff.rfl))

  pub list-refuses-7 : (said ≡ Number 7) ↔ (Known profile count p × (count ≤ 4294967295) × Checked profile count p × (rises p.sequence 0 p.sequence.size ≡ false))
  unfolding listed_of refuses
  list-refuses-7 = Iff.trans (refused-exactly _ 7 _) (simp choosing (simp (reading, one_of_two) Iff.rfl))

  pub list-refuses-15 : (said ≡ Number 15) ↔ (Known profile count p × (count ≤ 4294967295) × Checked profile count p × rising profile count p × (all_records count p.sequence ≡ false))
  unfolding listed_of refuses
  list-refuses-15 = Iff.trans (refused-exactly _ 15 _) (simp choosing (simp (reading, one_of_two) Iff.rfl))

  pub list-refuses-5 : (said ≡ Number 5) ↔ (Known profile count p × (count ≤ 4294967295) × Checked profile count p × rising profile count p × records profile count p × (count < end))
  unfolding listed_of refuses
  list-refuses-5 = Iff.trans (refused-exactly _ 5 _) (simp choosing (simp (reading, one_of_two) Iff.rfl))

  pub list-refuses-10 : (said ≡ Number 10) ↔ (Known profile count p × (count ≤ 4294967295) × Checked profile count p × rising profile count p × records profile count p × (end ≤ count) × (places < length list))
  unfolding listed_of refuses
  list-refuses-10 = Iff.trans (refused-exactly _ 10 _) (simp choosing (simp (reading, one_of_two) Iff.rfl))

  pub list-numbers : (n : ℕ) → said ≡ Number n → In n (16 ∷ 14 ∷ 1 ∷ 2 ∷ 3 ∷ 7 ∷ 15 ∷ 5 ∷ 10 ∷ [])
  unfolding listed_of
  list-numbers n h = refused-in _ n _ h

  pub list-accepts : ((n : ℕ) × (said ≡ Gives n)) ↔ (Known profile count p × (count ≤ 4294967295) × Checked profile count p × rising profile count p × records profile count p × (end ≤ count) × (length list ≤ places))
  unfolding listed_of
  list-accepts = Iff.trans (given-exactly _ _) (simp (reading, one_of_two) Iff.rfl)

  pub list-gives : (n : ℕ) → said ≡ Gives n → n ≡ length list
  unfolding listed_of
  list-gives n h = given-same (sym h ∙ clear-gives Number _ _ (gives-clear _ n _ h))
