-- Document 02, request 1: runs from a plain list. Assumes nothing.
use Rattle.std.specs.Prelude.{ℕ, suc, ◌+◌, Bool, cond, ◌||◌, List, [], ◌∷◌, ◌++◌, map, length, ℤ, pos, ◌-ℤ◌, ◌==◌, nat_lt}
use Rattle.keys.specs.Widths.{fits_in, half16}
use Rattle.meaning.specs.declared.Refusal.TheVariants.{Shape, Room}
use Rattle.meaning.specs.Refusals.{Said, Gives, Number, nothing, also, judged}
use Rattle.meaning.specs.Sequence.{same_z}
use Rattle.meaning.specs.Column.{Column, column_of, offset}
use Rattle.meaning.specs.Parts.{each}

-- ---- the rule

-- a run: its first value, its step, the number of its values
pub record Run : Type 0 where
  pub start : ℤ
  pub step : ℤ
  pub count : ℕ

-- "a run starts with one value and step 0"
abbrev pub begun : ℤ → Run
begun value = record { start = value; step = pos 0; count = 1 }

-- whether a value at this difference from the run's last joins it: "its second value joins if the difference has a step, ..; later values
-- join while the difference equals it"
unfoldable pub joins : Run → ℤ → Bool
joins run difference = cond (run.count == 1) (fits_in half16 difference) (same_z difference run.step)

-- the run with the value that joined: the difference "becomes the run's" step, or is it already
abbrev pub longer : Run → ℤ → Run
longer run difference = record { start = run.start; step = difference; count = suc run.count }

-- the runs of an open run, whose last value is given, and of the values that follow; "otherwise a new run starts"
unfoldable pub runs_from : Run → ℤ → List ℤ → List Run
runs_from run last [] = run ∷ []
runs_from run last (v ∷ vs) = cond (joins run (v -ℤ last)) (runs_from (longer run (v -ℤ last)) v vs) (run ∷ runs_from (begun v) v vs)

-- the runs of a list
unfoldable pub runs_of : List ℤ → List Run
runs_of [] = []
runs_of (v ∷ vs) = runs_from (begun v) v vs

-- ---- runs as values, and as a column

-- the values of a run, and of runs
abbrev pub values_of : Run → List ℤ
values_of run = each (offset run.start run.step) run.count

unfoldable pub spread : List Run → List ℤ
spread [] = []
spread (r ∷ rs) = values_of r ++ spread rs

-- "run ends (counted from the column's beginning)": the ends of runs of which the first begins at index n
unfoldable pub ends_from : ℕ → List Run → List ℕ
ends_from n [] = []
ends_from n (r ∷ rs) = (n + r.count) ∷ ends_from (n + r.count) rs

abbrev pub as_column : List Run → Column
as_column rs = column_of (map (λ (r : Run). r.start) rs) (ends_from 0 rs) (map (λ (r : Run). r.step) rs)

-- the column that is built from a list
abbrev pub built_from : List ℤ → Column
built_from values = as_column (runs_of values)

-- ---- the call

-- 1 SHAPE: "the rule needs over 4,096 runs or the list has over 4,294,967,295 values"
unfoldable pub too_much : List ℤ → Bool
too_much values = nat_lt 4096 (length (runs_of values)) || nat_lt 4294967295 (length values)

-- build: the run count; "1 .., then 10", with arrays of these lengths
unfoldable pub build_of : List ℤ → ℕ → ℕ → ℕ → Said ℕ
build_of values starts ends steps =
    judged Number
    (also Shape (too_much values)
    (also Room (nat_lt starts (length (runs_of values)) || nat_lt ends (length (runs_of values)) || nat_lt steps (length (runs_of values))) nothing))
    (Gives (length (runs_of values)))
