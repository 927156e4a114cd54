-- What the inner functions of the import tell each other. No promise of a public call names it. Assumes nothing.
use Rattle.std.specs.Prelude.{ℕ, suc, ◌+◌, ◌-◌, ◌*◌, ◌/◌, ◌%◌, ◌^◌, ◌<◌, ◌≤◌, ◌≡◌, Bool, true, List, ◌∷◌, ◌++◌, length, get_or, ℤ, pos}
use Rattle.std.specs.Borrow.{Bor, MutBor}
use Rattle.meaning.specs.Column.{offset}
use Rattle.meaning.specs.Parts.{each}
use Rattle.bits.specs.Word.{window_at}
use Rattle.build.specs.Rule.{Run, begun, runs_of}
use Rattle.importing.specs.Import.{records_in, present_in}

-- a record at which the test holds, or the count
abbrev pub Stands : (ℕ → Bool) → ℕ → ℕ → Type 0
Stands p count at = (at ≤ count) × (at < count → p at ≡ true)

-- of the records from at on, the first are at, at + by, .. up to at + by · more
abbrev pub Strip : (ℕ → Bool) → ℕ → ℕ → ℕ → ℕ → Type 0
Strip p count at by more = records_in p at count ≡ each (offset (pos at) (pos by)) (suc more) ++ records_in p (suc (at + by * more)) count

-- the rule's first run of the records from at on is this one, and the next run begins at next
pub record First (p : ℕ → Bool) (count at step n next : ℕ) : Type 0 where
  pub is : runs_of (records_in p at count) ≡ (record { start = pos at; step = pos step; count = n } ∷ runs_of (records_in p next count))
  pub after : at + n ≤ next
  pub some : 0 < n
  pub stands : Stands p count next
  pub small : step ≤ 32767

-- a run of two or more, as it is followed: so far its last record is this, of so many
pub record Going (p : ℕ → Bool) (count at by last n : ℕ) : Type 0 where
  pub two : 2 ≤ n
  pub is_last : last ≡ at + by * (n - 1)
  pub inside : last < count
  pub strip : Strip p count at by (n - 1)

-- what a window shows of the records behind one: so many of its records, the one itself the last of them, are gone
pub record Behind (bytes : List ℕ) (count at shown : ℕ) : Type 0 where
  pub base : ℕ
  pub gone : ℕ
  pub is : shown ≡ window_at true bytes base / 2 ^ gone
  pub from : at + 1 ≡ base + gone
  pub inside : base + 64 ≤ count

-- a run that is kept as one number
abbrev pub unpacked : ℕ → Run
unpacked word = record { start = pos (word / 34359738368); step = pos (word % 32768); count = word / 32768 % 1048576 }

-- the rule's first n runs of the values are kept so, in the first n places
abbrev pub Kept : List ℕ → List ℤ → ℕ → Type 0
Kept words values n = (n ≤ length words) × ((k : ℕ) → k < n → unpacked (get_or words k 0) ≡ get_or (runs_of values) k (begun (pos 0)))

-- a place for each run in the three arrays
abbrev pub RoomFor : Bor (List ℕ) → ℕ → MutBor (List ℤ) → MutBor (List ℕ) → MutBor (List ℤ) → Type 0
RoomFor bytes count starts ends steps =
    (length (runs_of (present_in bytes.now count)) ≤ length starts.now) × (length (runs_of (present_in bytes.now count)) ≤ length ends.now)
    × (length (runs_of (present_in bytes.now count)) ≤ length steps.now)
