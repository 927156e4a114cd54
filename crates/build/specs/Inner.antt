-- What the inner functions tell each other: the first of the rule's runs from an index on. No promise of a public call names it.
-- Assumes nothing.
use Rattle.std.specs.Prelude.{ℕ, suc, ◌-◌, ◌≤◌, List, length, drop, ℤ, pos, slice_index_or}
use Rattle.std.specs.Borrow.{Bor, MutBor}
use Rattle.keys.specs.Key.{key}
use Rattle.keys.specs.Widths.{half64}
use Rattle.build.specs.Rule.{Run, begun, runs_from, runs_of}

-- the first run that an open run and the values after it make
unfoldable pub head_from : Run → ℤ → List ℤ → Run
head_from run last vs = slice_index_or (runs_from run last vs) 0 (begun (pos 0))

abbrev pub value_at : List ℤ → ℕ → ℤ
value_at values i = slice_index_or values i (pos 0)

-- the run that begins at index i
unfoldable pub first_at : List ℤ → ℕ → Run
first_at values i = head_from (begun (value_at values i)) (value_at values i) (drop (suc i) values)

-- the same where the values from index a on to before i, with this step, are in the run already
unfoldable pub open_at : List ℤ → ℕ → ℤ → ℕ → Run
open_at values a step i = head_from (record { start = value_at values a; step = step; count = i - a }) (value_at values (i - 1)) (drop i values)

-- a value that lies 2 ^ 62 or more from the edges of the i64s
abbrev pub Inside : ℤ → Type 0
Inside v = (4611686018427387904 ≤ key half64 v) × (key half64 v ≤ 13835058055282163712)

-- a place for each run in the three arrays
abbrev pub RoomFor : Bor (List ℤ) → MutBor (List ℤ) → MutBor (List ℕ) → MutBor (List ℤ) → Type 0
RoomFor values starts ends steps = (length (runs_of values.now) ≤ length starts.now) × (length (runs_of values.now) ≤ length ends.now) × (length (runs_of values.now) ≤ length steps.now)
