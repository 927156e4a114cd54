-- A record and what follows it; a record of no runs. Assumes nothing.
use Rattle.std.specs.Prelude.{ℕ, ◌+◌, ◌≤◌, List, [], ◌∷◌, length}
use Rattle.meaning.specs.Column.{Column}
use Rattle.codec.specs.Record.{length_in}

-- the four bytes of length are there, and all that they count
abbrev pub There : List ℕ → Type 0
There bytes = 4 + length_in bytes ≤ length bytes

-- "The empty column", and its six bytes: a length of 2, and the kind
abbrev pub no_runs : Column
no_runs = record { starts = []; ends = []; steps = [] }

abbrev pub no_runs_bytes : List ℕ
no_runs_bytes = 2 ∷ 0 ∷ 0 ∷ 0 ∷ 1 ∷ 0 ∷ []
