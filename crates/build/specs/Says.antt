-- "If an answer is an enum, a definition states this paper's number and values for each of its cases." Assumes nothing.
use Rattle.std.specs.Prelude.{ℕ, List, length, ℤ}
use denote.Triple.Both.{Both}
use Rattle.std.specs.Borrow.{Bor, MutBor}
use Rattle.meaning.specs.Refusals.{Said, Gives, Number, number_of}
use Rattle.build.specs.declared.Built.{Built}
use Rattle.build.specs.declared.Built.TheVariants.{Runs, Refused}
use Rattle.build.specs.Rule.{build_of}

-- "the run count", or a refusal
abbrev pub says_built : Built → Said ℕ
says_built (Runs n) = Gives n
says_built (Refused why) = Number (number_of why)

-- as a contract names it: what is to be said of this list, built into these arrays
abbrev pub building : {A B C D : Type 0} → Both (Bor (List ℤ)) A → Both (MutBor (List ℤ)) B → Both (MutBor (List ℕ)) C → Both (MutBor (List ℤ)) D → Said ℕ
building values starts ends steps = build_of values.entry.now (length starts.entry.now) (length ends.entry.now) (length steps.entry.now)
