-- Document 02, request 5: words for going through a column by its places. Assumes nothing.
use Rattle.std.specs.Prelude.{ℕ, zero, suc, ◌+◌, ◌-◌, cond, List, [], ◌∷◌, eqb}
use Rattle.meaning.specs.declared.Place.{Place}
use Rattle.meaning.specs.Refusals.{Said, Gives, Number}
use Rattle.meaning.specs.Column.{Column, end_of, end_before}
use Rattle.meaning.specs.Calls.{place_of}

-- an index at which a walk asked for the place, and what it was told
pub record Stop : Type 0 where
  pub index : ℕ
  pub place : Place

-- a walk goes on by "the number of elements from that index to the end of the run"; it ends where nothing follows, and where it is refused
abbrev pub onward : (ℕ → List Stop) → ℕ → Said Place → List Stop
onward more i (Gives p) = cond (eqb p.follows 0) [] (record { index = i; place = p } ∷ more (i + p.follows))
onward more i (Number n) = []

-- a walk from an index on, of so many places at most
unfoldable pub stops : Column → ℕ → ℕ → List Stop
stops c zero i = []
stops c (suc n) i = onward (stops c n) i (place_of c i)

-- the index at which a walk from i on ends
unfoldable pub reached : ℕ → List Stop → ℕ
reached i [] = i
reached i (s ∷ rest) = reached (s.index + s.place.follows) rest

-- one stop a run, of n runs from r on: its first index, with the whole run to follow
unfoldable pub each_run : Column → ℕ → ℕ → List Stop
each_run c r zero = []
each_run c r (suc n) =
    record { index = end_before c.ends r; place = record { run = r; offset = 0; follows = end_of c r - end_before c.ends r } } ∷ each_run c (suc r) n

-- the n numbers from r on
unfoldable pub numbers : ℕ → ℕ → List ℕ
numbers r zero = []
numbers r (suc n) = r ∷ numbers (suc r) n
