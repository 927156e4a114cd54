-- Document 02, request 7: "Given profile, record count and column, answer for one record whether it carries the field, and list by window of record
-- numbers those that do and those that don't." Assumes nothing.
use Rattle.std.specs.Prelude.{ℕ, zero, suc, ◌-◌, Bool, cond, not, ◌||◌, List, [], ◌∷◌, ◌++◌, eqb, leb, ltb, length}
use Rattle.meaning.specs.declared.Refusal.TheVariants.{Index, Window, Room, Count, Profile}
use Rattle.meaning.specs.Refusals.{Word, fine, Said, Gives, Number, Trial, tried}
use Rattle.meaning.specs.Sequence.{Sequence, Source}
use Rattle.recorded.specs.Records.{carries_record, record_tests}

-- "an optional field's column listed the records that carry it (profile 1)"; profile 2: "the records that leave it empty"
unfoldable pub carries_field : ℕ → Sequence → ℕ → Bool
carries_field profile q i = cond (eqb profile 1) (carries_record q i) (not (carries_record q i))

-- the numbers at which a test holds, in order: of n numbers from a on, and of a window ("A window start..end holds the indices from start up to but
-- not including end")
unfoldable pub numbers_for : (ℕ → Bool) → ℕ → ℕ → List ℕ
numbers_for p a zero = []
numbers_for p a (suc n) = cond (p a) (a ∷ numbers_for p (suc a) n) (numbers_for p (suc a) n)

abbrev pub numbers_in : (ℕ → Bool) → ℕ → ℕ → List ℕ
numbers_in p start end = numbers_for p start (end - start)

-- "those that do and those that don't"
abbrev pub carrying_in : ℕ → Sequence → ℕ → ℕ → List ℕ
carrying_in profile q start end = numbers_in (carries_field profile q) start end

abbrev pub filled_in : ℕ → Sequence → ℕ → ℕ → List ℕ
filled_in profile q start end = numbers_in (λ i. not (carries_field profile q i)) start end

-- "16 PROFILE for any number but 1 and 2, then 14 for a record count over 4,294,967,295, both before 1; after 3 come 7, 15 for an element that is no
-- record number"
abbrev pub profile_tests : ℕ → ℕ → Source → List Trial
profile_tests profile count p =
    record { why = Profile; holds = not (eqb profile 1 || eqb profile 2) } ∷ record { why = Count; holds = ltb 4294967295 count } ∷ record_tests p count

-- these alone: what the three calls have in common
unfoldable pub profile_of : ℕ → ℕ → Source → Said Word
profile_of profile count p = tried Number (profile_tests profile count p) (Gives fine)

-- "4 for a record not below it": whether record i carries the field
unfoldable pub carries_of : ℕ → ℕ → Source → ℕ → Said Bool
carries_of profile count p i =
    tried Number (profile_tests profile count p ++ (record { why = Index; holds = leb count i } ∷ [])) (Gives (carries_field profile p.sequence i))

-- "5 for a window end above the record count, .. 10": how many records a list has, written into so many places
abbrev pub list_tests : ℕ → ℕ → Source → ℕ → ℕ → ℕ → List Trial
list_tests profile count p end places n =
    profile_tests profile count p ++ (record { why = Window; holds = ltb count end } ∷ record { why = Room; holds = ltb places n } ∷ [])

unfoldable pub listed_of : ℕ → ℕ → Source → ℕ → ℕ → List ℕ → Said ℕ
listed_of profile count p end places list = tried Number (list_tests profile count p end places (length list)) (Gives (length list))

-- the records of the window that carry the field, and those that don't
abbrev pub carrying_of : ℕ → ℕ → Source → ℕ → ℕ → ℕ → Said ℕ
carrying_of profile count p start end places = listed_of profile count p end places (carrying_in profile p.sequence start end)

abbrev pub filled_of : ℕ → ℕ → Source → ℕ → ℕ → ℕ → Said ℕ
filled_of profile count p start end places = listed_of profile count p end places (filled_in profile p.sequence start end)
