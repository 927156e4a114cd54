-- Document 02, request 1, read as a condition on runs and not as a way to make them. Assumes nothing.
use Rattle.std.specs.Prelude.{◌≡◌, ◌-◌, ◌<◌, true, false, List, [], ◌∷◌, ℤ, pos, ◌-ℤ◌}
use Rattle.keys.specs.Widths.{fits_in, half16}
use Rattle.meaning.specs.Column.{offset}
use Rattle.build.specs.Rule.{Run, joins, spread}

-- a run's last value
abbrev pub last_of : Run → ℤ
last_of run = offset run.start run.step (run.count - 1)

-- "a run starts with one value and step 0", and any step that it gets is one
pub record Regular (run : Run) : Type 0 where
  pub some : 0 < run.count
  pub step_fits : fits_in half16 run.step ≡ true
  pub alone : run.count ≡ 1 → run.step ≡ pos 0

-- a new run starts only with a value that doesn't join the one before
abbrev pub Parted : List Run → Type 0
Parted [] = Unit {0}
Parted (r ∷ []) = Unit {0}
Parted (r ∷ q ∷ rs) = (joins r (q.start -ℤ last_of r) ≡ false) × Parted (q ∷ rs)

abbrev pub AllRegular : List Run → Type 0
AllRegular [] = Unit {0}
AllRegular (r ∷ rs) = Regular r × AllRegular rs

-- the runs have the list's values, and follow the rule
pub record Follows (rs : List Run) (xs : List ℤ) : Type 0 where
  pub values : spread rs ≡ xs
  pub regular : AllRegular rs
  pub parted : Parted rs
