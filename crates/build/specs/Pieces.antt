-- Words of the theorems about a list: as a sequence, and in pieces. No promise names them. Assumes nothing.
use Rattle.std.specs.Prelude.{List, [], ◌∷◌, ◌++◌, length, ℤ, pos, slice_index_or}
use Rattle.meaning.specs.Sequence.{Sequence}
use Rattle.build.specs.Rule.{Run, runs_from, runs_of}
use Rattle.build.specs.Follows.{last_of}

-- a list as a sequence
abbrev pub listed : List ℤ → Sequence
listed xs = record { size = length xs; at = λ i. slice_index_or xs i (pos 0) }

-- what more values make of runs: the last run is still open, the others stay
unfoldable pub go_on : List Run → List ℤ → List Run
go_on [] more = runs_of more
go_on (r ∷ []) more = runs_from r (last_of r) more
go_on (r ∷ q ∷ rs) more = r ∷ go_on (q ∷ rs) more

-- pieces, one after the other
unfoldable pub go_on_by : List Run → List (List ℤ) → List Run
go_on_by rs [] = rs
go_on_by rs (p ∷ ps) = go_on_by (go_on rs p) ps

-- and as one list
unfoldable pub whole : List (List ℤ) → List ℤ
whole [] = []
whole (p ∷ ps) = p ++ whole ps
