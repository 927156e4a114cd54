-- Document 02, requests 3 and 7: columns of record numbers. Assumes nothing.
use Rattle.std.specs.Prelude.{ℕ, Bool, not, ◌&&◌, List, [], ◌∷◌, ℤ, pos}
use Rattle.std.specs.Int.Signed.{lt_z}
use Rattle.ranges.specs.Ranges.{all_in}
use Rattle.meaning.specs.declared.Refusal.TheVariants.{Shape, Ends, Reach, Order, Range}
use Rattle.meaning.specs.Refusals.{Word, fine, Said, Gives, Number, Trial, tried}
use Rattle.meaning.specs.Sequence.{Sequence, Source, carries, rises}

-- whether a number is a record number, of count records
unfoldable pub is_record : ℕ → ℤ → Bool
is_record count z = not (lt_z z (pos 0)) && lt_z z (pos count)

-- whether each element is one
unfoldable pub all_records : ℕ → Sequence → Bool
all_records count q = all_in (λ k. is_record count (q.at k)) 0 q.size

-- whether record i is an element
abbrev pub carries_record : Sequence → ℕ → Bool
carries_record q i = carries q (pos i)

-- "1, 2, 3, 7 for a column that doesn't rise, 15 RANGE for an element that is no record number"
abbrev pub record_tests : Source → ℕ → List Trial
record_tests p count =
    record { why = Shape; holds = p.shape } ∷ record { why = Ends; holds = p.ends } ∷ record { why = Reach; holds = p.reach }
    ∷ record { why = Order; holds = not (rises p.sequence 0 p.sequence.size) } ∷ record { why = Range; holds = not (all_records count p.sequence) } ∷ []

-- check_records: one of these, or nothing to say
unfoldable pub records_of : Source → ℕ → Said Word
records_of p count = tried Number (record_tests p count) (Gives fine)
