-- The refusals of the three calls, one after the other. Assumes nothing.
use Prim.Native.Nat.{ℕ, ◌+◌, ◌-◌, ◌≤◌, ◌<◌}
use mathlib.Core.Path.{◌≡◌, refl, sym, ap, ◌∙◌, fun_ext}
use mathlib.Core.Bool.{Bool, true, false, cond, not, ◌||◌}
use mathlib.Core.List.{List, [], ◌∷◌, ◌++◌}
use native.Mathlib.Omega.{arith}
use borrow.Author.Tests.{lt-ltb, le-ltb, le-leb, lt-leb, ltb-false}
use lib.Dec.{eqb, leb, ltb}
use lib.ListN.{length, drop}
use Rattle.ranges.proofs.Bools.{not-not}
use Rattle.meaning.specs.declared.Refusal.{Refusal}
use Rattle.meaning.specs.declared.Refusal.TheVariants.{Index, Window, Room}
use Rattle.meaning.specs.Refusals.{Word, Said, Gives, Number, number_of, Trial, tried}
use Rattle.meaning.specs.Sequence.{Sequence, Source}
use Rattle.meaning.specs.Column.{Column, source_of, sequence_of}
use Rattle.meaning.proofs.Judging.{Clear, tried-refused, tried-clear, clear-tried}
use Rattle.checked.specs.declared.Checked.{Checked}
use Rattle.checked.specs.declared.Checked.TheVariants.{Fine, Refused}
use Rattle.checked.specs.Says.{says_checked}
use Rattle.bits.specs.Bitmap.{count_for}
use Rattle.recorded.specs.Records.{carries_record, records_of}
use Rattle.recorded.proofs.Cases.{clear-sound, clear-fit}
use Rattle.profiles.specs.Profiles.{carries_field, profile_tests, profile_of, carries_of, listed_of}
use Rattle.profiles.specs.Inner.{Fits, sought}

-- ---- what the three calls try first

module _ (profile count : ℕ) (p : Source) where
  pub says-profile : (eqb profile 1 || eqb profile 2) ≡ false → Number 16 ≡ profile_of profile count p
  unfolding profile_of tried
  says-profile e = rw e

  module _ (e : (eqb profile 1 || eqb profile 2) ≡ true) where
    pub says-count : 4294967295 < count → Number 14 ≡ profile_of profile count p
    unfolding profile_of tried
    says-count l = rw (e, lt-ltb 4294967295 count l)

    pub says-records : (x : Said Word) → count ≤ 4294967295 → x ≡ records_of p count → x ≡ profile_of profile count p
    unfolding profile_of records_of tried
    says-records x l h = rw (e, le-ltb 4294967295 count l) h

-- ---- behind them

module _ (profile count : ℕ) (p : Source) (r : Checked) (h : says_checked r ≡ profile_of profile count p) where
  pub was-refused : {A : Type 0} (why : Refusal) (us : List Trial) (rest : Said A) → r ≡ Refused why → Number (number_of why) ≡ tried Number (profile_tests profile count p ++ us) rest
  unfolding profile_of
  was-refused why us rest e = tried-refused Number (profile_tests profile count p) us rest (number_of why) (sym (ap says_checked e) ∙ h)

  pub was-clear : r ≡ Fine → Clear (profile_tests profile count p)
  unfolding profile_of
  was-clear e = tried-clear (profile_tests profile count p) (sym (ap says_checked e) ∙ h)

  pub was-fine : {A : Type 0} (us : List Trial) (rest : Said A) → r ≡ Fine → tried Number us rest ≡ tried Number (profile_tests profile count p ++ us) rest
  was-fine us rest e = clear-tried Number (profile_tests profile count p) us rest (was-clear e)

-- a column that passed them
pub fits-clear : (profile count : ℕ) (c : Column) → Clear (profile_tests profile count (source_of c)) → Fits c count
fits-clear profile count c clear = record {
  is-sound = clear-sound c count clear.1.1;
  all-fit = clear-fit c count clear.1.1;
  few = ltb-false 4294967295 count clear.1.0;
}

-- ---- one record

module _ (count i : ℕ) (x : Bool) where
  abbrev last_test : List Trial
  last_test = record { why = Index; holds = leb count i } ∷ []

  last-index : count ≤ i → Number 4 ≡ tried Number last_test (Gives x)
  unfolding tried
  last-index l = rw (le-leb count i l)

  last-field : i < count → Gives x ≡ tried Number last_test (Gives x)
  unfolding tried
  last-field l = rw (lt-leb count i l)

module _ (profile count : ℕ) (c : Column) (i : ℕ) (r : Checked) (h : says_checked r ≡ profile_of profile count (source_of c)) where
  abbrev field : Bool
  field = carries_field profile (sequence_of c) i

  pub field-refused : (why : Refusal) → r ≡ Refused why → Number (number_of why) ≡ carries_of profile count (source_of c) i
  unfolding carries_of
  field-refused why e = was-refused profile count (source_of c) r h why (last_test count i field) (Gives field) e

  pub says-index : r ≡ Fine → count ≤ i → Number 4 ≡ carries_of profile count (source_of c) i
  unfolding carries_of
  says-index e l = last-index count i field l ∙ was-fine profile count (source_of c) r h (last_test count i field) (Gives field) e

  pub says-field : r ≡ Fine → (x : Bool) → i < count → x ≡ field → Gives x ≡ carries_of profile count (source_of c) i
  unfolding carries_of
  says-field e x l f = ap Gives f ∙ last-field count i field l ∙ was-fine profile count (source_of c) r h (last_test count i field) (Gives field) e

-- one record counted
counted : (p : ℕ → Bool) (i n : ℕ) → n ≡ count_for p i (i + 1 - i) → n ≡ cond (p i) 1 0
unfolding count_for
counted p i n e = let z : i + 1 - i ≡ 1 = omega arith in e ∙ rw z (omega arith)

bit : (t : Bool) (n : ℕ) → n ≡ cond t 1 0 → (eqb n 1 ≡ t) × (eqb n 0 ≡ not t)
bit true n e = (rw e, rw e)
bit false n e = (rw e, rw e)

module _ (profile count : ℕ) (c : Column) (i n : ℕ) (e : n ≡ count_for (carries_record (sequence_of c)) i (i + 1 - i)) where
  pub field-one : profile ≡ 1 → eqb n 1 ≡ carries_field profile (sequence_of c) i
  unfolding carries_field
  field-one h = rw h (bit (carries_record (sequence_of c) i) n (counted (carries_record (sequence_of c)) i n e)).0

  pub field-two : eqb profile 1 ≡ false → eqb n 0 ≡ carries_field profile (sequence_of c) i
  unfolding carries_field
  field-two h = rw h (bit (carries_record (sequence_of c) i) n (counted (carries_record (sequence_of c)) i n e)).1

-- ---- lists

-- the list of a profile is that of the elements, or of the others
pub carrying-is : (profile : ℕ) (q : Sequence) → sought (eqb profile 1) q ≡ carries_field profile q
unfolding carries_field
carrying-is profile q = refl

pub filled_is : (profile : ℕ) (q : Sequence) → sought (not (eqb profile 1)) q ≡ (λ i. not (carries_field profile q i))
unfolding carries_field
filled_is profile q = fun_ext (λ (i : ℕ). turn (eqb profile 1) (carries_record q i))
  where
    turn : (t b : Bool) → cond (not t) b (not b) ≡ not (cond t b (not b))
    turn true b = refl
    turn false b = sym (not-not b)

module _ (profile count : ℕ) (p : Source) (end places : ℕ) (list : List ℕ) where
  abbrev rest : List Trial
  rest = record { why = Window; holds = ltb count end } ∷ record { why = Room; holds = ltb places (length list) } ∷ []

  pub listed-behind : (r : Checked) → says_checked r ≡ profile_of profile count p → r ≡ Fine → (x : Said ℕ) → x ≡ tried Number rest (Gives (length list)) → x ≡ listed_of profile count p end places list
  unfolding listed_of
  listed-behind r h e x t = t ∙ was-fine profile count p r h rest (Gives (length list)) e

  pub listed-refused : (r : Checked) → says_checked r ≡ profile_of profile count p → (why : Refusal) → r ≡ Refused why → Number (number_of why) ≡ listed_of profile count p end places list
  unfolding listed_of
  listed-refused r h why e = was-refused profile count p r h why rest (Gives (length list)) e

-- what is left of the output
pub left_is : (list : List ℕ) (n : ℕ) (new old : List ℕ) → n ≡ length list → new ≡ list → new ++ drop n old ≡ list ++ drop (length list) old
left_is list n new old e h = rw (h, e)

-- the last two
module _ (count end places : ℕ) (list : List ℕ) where
  abbrev pub said-by : Said ℕ
  said-by = tried Number (record { why = Window; holds = ltb count end } ∷ record { why = Room; holds = ltb places (length list) } ∷ []) (Gives (length list))

  pub says-window : count < end → Number 5 ≡ said-by
  unfolding tried
  says-window l = rw (lt-ltb count end l)

  pub says-room : end ≤ count → places < length list → Number 10 ≡ said-by
  unfolding tried
  says-room l m = rw (le-ltb count end l, lt-ltb places (length list) m)

  pub says-listed : (n : ℕ) → end ≤ count → length list ≤ places → n ≡ length list → Gives n ≡ said-by
  unfolding tried
  says-listed n l m e = rw (le-ltb count end l, le-ltb places (length list) m, e)
