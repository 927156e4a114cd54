-- Document 02, request 3: "Import takes a bitmap and a record count and gives, by Item 1's rule, the column of record numbers that are present, with
-- how many ones it counted; bits past the record count are ignored." Assumes nothing.
use Rattle.std.specs.Prelude.{ℕ, zero, suc, ◌-◌, Bool, cond, ◌||◌, List, [], ◌∷◌, ltb, length, ℤ, pos}
use Rattle.meaning.specs.declared.Refusal.TheVariants.{Shape, Room, Cut, Count}
use Rattle.meaning.specs.Refusals.{Said, Gives, Number, Trial, tried}
use Rattle.meaning.specs.Column.{Column}
use Rattle.bits.specs.Bitmap.{present, count_for, bytes_for}
use Rattle.build.specs.Rule.{runs_of, built_from}

-- the numbers at which a test holds, in order: of n numbers from a on, and from a on, below b
unfoldable pub records_for : (ℕ → Bool) → ℕ → ℕ → List ℤ
records_for p a zero = []
records_for p a (suc n) = cond (p a) (pos a ∷ records_for p (suc a) n) (records_for p (suc a) n)

abbrev pub records_in : (ℕ → Bool) → ℕ → ℕ → List ℤ
records_in p a b = records_for p a (b - a)

-- the record numbers that are present
abbrev pub present_in : List ℕ → ℕ → List ℤ
present_in bytes count = records_in (present bytes) 0 count

-- "the column of record numbers that are present", by request 1's rule
abbrev pub imported_column : List ℕ → ℕ → Column
imported_column bytes count = built_from (present_in bytes count)

-- what an import gives: the run count, and "how many ones it counted"
pub record Imports : Type 0 where
  pub runs : ℕ
  pub ones : ℕ

-- "14 COUNT for more records than that, before all others; on import then 11 for a short bitmap, 1 for over 4,096 runs, 10", with arrays of these lengths
abbrev pub import_tests : List ℕ → ℕ → ℕ → ℕ → ℕ → List Trial
import_tests bytes count starts ends steps =
    record { why = Count; holds = ltb 524288 count } ∷ record { why = Cut; holds = ltb (length bytes) (bytes_for count) }
    ∷ record { why = Shape; holds = ltb 4096 (length (runs_of (present_in bytes count))) }
    ∷ record {
      why = Room;
      holds = ltb starts (length (runs_of (present_in bytes count))) || ltb ends (length (runs_of (present_in bytes count))) || ltb steps (length (runs_of (present_in bytes count)));
    } ∷ []

unfoldable pub import_of : List ℕ → ℕ → ℕ → ℕ → ℕ → Said Imports
import_of bytes count starts ends steps =
    tried Number (import_tests bytes count starts ends steps) (Gives (record { runs = length (runs_of (present_in bytes count)); ones = count_for (present bytes) 0 count }))
