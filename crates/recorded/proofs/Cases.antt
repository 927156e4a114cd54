-- The refusals of `check_records` one after the other, and what a caller of it learns. Assumes nothing.
use Prim.Native.Nat.{ℕ}
use mathlib.Core.Path.{◌≡◌, sym, ap, ◌∙◌}
use mathlib.Core.Bool.{Bool, true, false, not, ◌&&◌}
use mathlib.Core.List.{List, [], ◌∷◌, ◌++◌}
use borrow.Author.Tests.{not-false}
use Rattle.ranges.proofs.Bools.{and_left, and_right, and_both, either, clash}
use Rattle.meaning.specs.declared.Refusal.{Refusal}
use Rattle.meaning.specs.declared.Refusal.TheVariants.{Order, Range}
use Rattle.meaning.specs.Refusals.{Word, fine, Said, Gives, Number, number_of, Trial, tried}
use Rattle.meaning.specs.Sequence.{Source, rises}
use Rattle.meaning.specs.Column.{Column, size_of, sequence_of, source_of, sound}
use Rattle.meaning.specs.Calls.{check_of}
use Rattle.meaning.proofs.Judging.{Passes, Clear, refused-first, passes-first, passes-sound, tried-refused, tried-clear}
use Rattle.meaning.proofs.Soundness.{sound-parts}
use Rattle.checked.specs.declared.Checked.{Checked}
use Rattle.checked.specs.declared.Checked.TheVariants.{Fine, Refused}
use Rattle.checked.specs.Says.{says_checked}
use Rattle.recorded.specs.Records.{all_records, record_tests, records_of}
use Rattle.recorded.specs.Inner.{all_fit}
use Rattle.recorded.proofs.Fitting.{fits-exactly}

-- ---- behind the check

-- what is tried after it, by what the tests say
abbrev pub tried_after : Bool → Bool → Said Word
tried_after up records = tried Number (record { why = Order; holds = not up } ∷ record { why = Range; holds = not records } ∷ []) (Gives fine)

module _ (up records : Bool) where
  pub says-order : up ≡ false → Number 7 ≡ tried_after up records
  unfolding tried
  says-order e = rw e

  pub says_range : false ≡ (up && records) → up ≡ true → Number 15 ≡ tried_after up records
  unfolding tried
  says_range h e = rw (e, either records (λ t. clash (and_both up records e t) (sym h)) (λ t. t))

  pub says-fine : true ≡ (up && records) → Gives fine ≡ tried_after up records
  unfolding tried
  says-fine h = rw (and_left up records (sym h), and_right up records (sym h))

-- ---- by it, and past it

module _ (p : Source) (count : ℕ) where
  pub says-checked : (n : ℕ) → Number n ≡ check_of p → Number n ≡ records_of p count
  unfolding records_of tried
  says-checked n h = refused-first p Number _ n h

  pub says-sound : (x : Said Word) → Passes p → x ≡ tried_after (rises p.sequence 0 p.sequence.size) (all_records count p.sequence) → x ≡ records_of p count
  unfolding records_of tried
  says-sound x ok e = e ∙ passes-first p Number _ ok

-- ---- what a caller learns

-- a call whose tests go on from these is refused by the same number,
pub records-refused : {A : Type 0} (p : Source) (count : ℕ) (r : Checked) (why : Refusal) (refuse : ℕ → A) (us : List Trial) (rest : A)
    → says_checked r ≡ records_of p count → r ≡ Refused why → refuse (number_of why) ≡ tried refuse (record_tests p count ++ us) rest
unfolding records_of
records-refused p count r why refuse us rest h e = tried-refused refuse (record_tests p count) us rest (number_of why) (sym (ap says_checked e) ∙ h)

-- or none of them holds,
pub records-clear : (p : Source) (count : ℕ) (r : Checked) → says_checked r ≡ records_of p count → r ≡ Fine → Clear (record_tests p count)
unfolding records_of
records-clear p count r h e = tried-clear (record_tests p count) (sym (ap says_checked e) ∙ h)

-- and then the column is sound, and all its runs fit
module _ (c : Column) (count : ℕ) (clear : Clear (record_tests (source_of c) count)) where
  pub clear-sound : sound c ≡ true
  clear-sound = passes-sound c (clear.0, (clear.1.0, (clear.1.1.0, tt)))

  pub clear-fit : all_fit c count ≡ true
  clear-fit = fits-exactly c (sound-parts c clear-sound) count ∙ and_both (rises (sequence_of c) 0 (size_of c)) (all_records count (sequence_of c))
      (not-false (rises (sequence_of c) 0 (size_of c)) clear.1.1.1.0) (not-false (all_records count (sequence_of c)) clear.1.1.1.1.0)
