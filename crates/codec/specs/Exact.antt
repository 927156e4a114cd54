-- Document 01, "Refusal numbers": the words of "Given exactly if" for a record that is read. Assumes nothing.
use Rattle.std.specs.Prelude.{ℕ, ◌+◌, ◌-◌, ◌%◌, ◌≤◌, ◌≡◌, List, length}
use Rattle.codec.specs.Record.{length_in, kind_in, runs_in}

-- "4 bytes there (11), length range (13)"
abbrev pub Sized : List ℕ → Type 0
Sized bytes = (4 ≤ length bytes) × (2 ≤ length_in bytes) × (length_in bytes ≤ 57346)

-- "bytes there (11)"
abbrev pub Whole : List ℕ → Type 0
Whole bytes = Sized bytes × (4 + length_in bytes ≤ length bytes)

-- "kind (12)"
abbrev pub Kinded : List ℕ → Type 0
Kinded bytes = Whole bytes × (kind_in bytes ≡ 1)

-- "multiple (13)"
abbrev pub Formed : List ℕ → Type 0
Formed bytes = Kinded bytes × ((length_in bytes - 2) % 14 ≡ 0)

-- "room (10)"
abbrev pub Roomy : List ℕ → ℕ → ℕ → ℕ → Type 0
Roomy bytes starts ends steps = (runs_in bytes ≤ starts) × (runs_in bytes ≤ ends) × (runs_in bytes ≤ steps)
