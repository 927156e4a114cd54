-- The column's calls: "Given exactly if", a line a call and refusal; what is accepted. Assumes nothing.
use Prim.Native.Nat.{ℕ, ◌<◌, ◌≤◌}
use mathlib.Core.Path.{◌≡◌, refl}
use mathlib.Core.Bool.{Bool, true, false}
use mathlib.Core.Logic.Iff
use mathlib.Core.Logic.{◌↔◌}
use lib.Dec.{ltb, leb, eqb}
use Rattle.keys.specs.Widths.{half64}
use Rattle.ranges.specs.Ranges.{some_of}
use Rattle.ranges.proofs.Bools.{not-not}
use Rattle.ranges.proofs.Reading.{reading}
use Rattle.meaning.specs.declared.Refusal.{Refusal}
use Rattle.meaning.specs.declared.Refusal.TheVariants.{Index}
use Rattle.meaning.specs.Refusals.{fine, Said, Gives, Number, also, judged}
use Rattle.meaning.specs.Column.{Column, shape_ok, ends_ok, reach_ok, sound, size_of, source_of}
use Rattle.meaning.specs.Sequence.{on_source}
use Rattle.meaning.specs.Calls.{check_of, len_of, is_empty_of, place_of, get_of}
use Rattle.theorems.specs.Exact.{earlier, accepted, sound_source}
use Rattle.theorems.proofs.Exactly.{plainly, exact, accepted-exactly, OfSource, source-tests}

module _ (c : Column) where
  -- a column's source is sound exactly if the column is
  pub sound-source : sound_source (source_of c) ≡ sound c
  unfolding sound_source sound
  sound-source = simp not-not

  -- 1, 2 and 3 of a column
  pub record OfColumn {B : Type 0} (x : Said B) : Type 0 where
    pub refuses-1 : (x ≡ Number 1) ↔ (shape_ok c ≡ false)
    pub refuses-2 : (x ≡ Number 2) ↔ ((shape_ok c ≡ true) × (ends_ok c.ends ≡ false))
    pub refuses-3 : (x ≡ Number 3) ↔ ((shape_ok c ≡ true) × (ends_ok c.ends ≡ true) × (reach_ok half64 c ≡ false))

  column-tests : {B : Type 0} {x : Said B} → OfSource (source_of c) x → OfColumn x
  column-tests r = record {
    refuses-1 = Iff.trans r.refuses-1 (simp reading Iff.rfl);
    refuses-2 = Iff.trans r.refuses-2 (simp reading Iff.rfl);
    refuses-3 = Iff.trans r.refuses-3 (simp reading Iff.rfl);
  }

  -- a call that applies these alone
  module _ {B : Type 0} (b : B) where
    plain-refuses : OfColumn (judged Number (on_source (source_of c)) (Gives b))
    plain-refuses = column-tests (source-tests (plainly b) (on_source (source_of c)) (source_of c) refl refl refl)

    plain-accepts : (accepted (judged Number (on_source (source_of c)) (Gives b)) ≡ true) ↔ (sound c ≡ true)
    unfolding sound
    plain-accepts = Iff.trans (accepted-exactly (plainly b) (on_source (source_of c))) (simp reading Iff.rfl)

  pub check-refuses : OfColumn (check_of (source_of c))
  unfolding check_of
  check-refuses = plain-refuses fine

  pub len-refuses : OfColumn (len_of (source_of c))
  unfolding len_of
  len-refuses = plain-refuses (size_of c)

  pub is-empty-refuses : OfColumn (is_empty_of (source_of c))
  unfolding is_empty_of
  is-empty-refuses = plain-refuses (eqb (size_of c) 0)

  pub check-accepts : (accepted (check_of (source_of c)) ≡ true) ↔ (sound c ≡ true)
  unfolding check_of
  check-accepts = plain-accepts fine

  pub len-accepts : (accepted (len_of (source_of c)) ≡ true) ↔ (sound c ≡ true)
  unfolding len_of
  len-accepts = plain-accepts (size_of c)

  pub is-empty-accepts : (accepted (is_empty_of (source_of c)) ≡ true) ↔ (sound c ≡ true)
  unfolding is_empty_of
  is-empty-accepts = plain-accepts (eqb (size_of c) 0)

  module _ (i : ℕ) where
    abbrev place_tests : Refusal → Bool
    place_tests = also Index (ltb (size_of c) i) (on_source (source_of c))

    abbrev get_tests : Refusal → Bool
    get_tests = also Index (leb (size_of c) i) (on_source (source_of c))

    pub place-refuses : OfColumn (place_of c i)
    unfolding place_of
    place-refuses = column-tests (source-tests (plainly _) place_tests (source_of c) refl refl refl)

    -- "place asked above length"
    pub place-refuses-4 : (place_of c i ≡ Number 4) ↔ ((sound c ≡ true) × (size_of c < i))
    unfolding place_of some_of earlier sound
    place-refuses-4 = Iff.trans (exact (plainly _) place_tests Index refl) (simp reading Iff.rfl)

    pub place-accepts : (accepted (place_of c i) ≡ true) ↔ ((sound c ≡ true) × (i ≤ size_of c))
    unfolding place_of sound
    place-accepts = Iff.trans (accepted-exactly (plainly _) place_tests) (simp reading Iff.rfl)

    pub get-refuses : OfColumn (get_of (source_of c) i)
    unfolding get_of
    get-refuses = column-tests (source-tests (plainly _) get_tests (source_of c) refl refl refl)

    -- "element asked at index ≥ length"
    pub get-refuses-4 : (get_of (source_of c) i ≡ Number 4) ↔ ((sound c ≡ true) × (size_of c ≤ i))
    unfolding get_of some_of earlier sound
    get-refuses-4 = Iff.trans (exact (plainly _) get_tests Index refl) (simp reading Iff.rfl)

    pub get-accepts : (accepted (get_of (source_of c) i) ≡ true) ↔ ((sound c ≡ true) × (i < size_of c))
    unfolding get_of sound
    get-accepts = Iff.trans (accepted-exactly (plainly _) get_tests) (simp reading Iff.rfl)
