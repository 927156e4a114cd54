-- What the inner functions of a record tell each other. No promise of a public call names it. Assumes nothing.
use Rattle.std.specs.Prelude.{ℕ, ◌+◌, ◌*◌, ◌≤◌, List, length, ℤ}
use Rattle.std.specs.Borrow.{Bor, MutBor}
use Rattle.meaning.specs.Refusals.{Said, Gives, Number, number_of}
use Rattle.record.specs.declared.reading.Opened.{Opened}
use Rattle.record.specs.declared.reading.Opened.TheVariants.{Runs, Refused}

-- the number of runs of a record whose length and kind are right, or a refusal
abbrev pub says_opened : Opened → Said ℕ
says_opened (Runs n) = Gives n
says_opened (Refused why) = Number (number_of why)

-- n runs that are there, and a place for each in the three arrays
abbrev pub RoomFor : ℕ → Bor (List ℕ) → MutBor (List ℤ) → MutBor (List ℕ) → MutBor (List ℤ) → Type 0
RoomFor n bytes starts ends steps =
    (n ≤ 4096) × (6 + 14 * n ≤ length bytes.now) × (n ≤ length starts.now) × (n ≤ length ends.now) × (n ≤ length steps.now)
