-- How a contract names what a call is lent: the column, three references that are read at the call's entry, and what an output holds after the
-- call. Assumes nothing.
use Rattle.std.specs.Prelude.{ℕ, ◌≡◌, List, ℤ}
use denote.Triple.Both.{Both}
use Rattle.std.specs.Borrow.{Bor, MutBor}
use Rattle.meaning.specs.Refusals.{Said}
use Rattle.meaning.specs.Outputs.{after}
use Rattle.meaning.specs.Sequence.{Sequence, Source}
use Rattle.meaning.specs.Column.{Column, column_of, sequence_of, source_of}

-- in an `ensures`, where a reference has an entry and an exit: the column, its sequence, and what it is to the calls on it
module _ {X Y Z : Type 0} (starts : Both (Bor (List ℤ)) X) (ends : Both (Bor (List ℕ)) Y) (steps : Both (Bor (List ℤ)) Z) where
  abbrev pub column : Column
  column = column_of starts.entry.now ends.entry.now steps.entry.now

  abbrev pub sequence : Sequence
  sequence = sequence_of column

  abbrev pub source : Source
  source = source_of column

-- in a `requires`, which speaks of the entry alone
abbrev pub column_now : Bor (List ℤ) → Bor (List ℕ) → Bor (List ℤ) → Column
column_now starts ends steps = column_of starts.now ends.now steps.now

-- an output after a call that says so and gives these values
abbrev pub Leaves : {A B : Type 0} → Both (MutBor (List B)) (MutBor (List B)) → Said A → List B → Type 0
Leaves out said new = out.exit.now ≡ after said new out.entry.now
