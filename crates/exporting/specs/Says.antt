-- "If an answer is an enum, a definition states this paper's number and values for each of its cases." Assumes nothing.
use Rattle.std.specs.Prelude.{ℕ, List, length}
use denote.Triple.Both.{Both}
use Rattle.std.specs.Borrow.{MutBor}
use Rattle.meaning.specs.Refusals.{Said, Gives, Number, number_of}
use Rattle.meaning.specs.Sequence.{Source}
use Rattle.exporting.specs.Export.{export_of}
use Rattle.exporting.specs.declared.Exported.{Exported}
use Rattle.exporting.specs.declared.Exported.TheVariants.{Bytes, Refused}

-- "the bytes written", or a refusal
abbrev pub says_exported : Exported → Said ℕ
says_exported (Bytes n) = Gives n
says_exported (Refused why) = Number (number_of why)

-- as a contract names it: what is to be said of a source, exported into this output
abbrev pub exporting : {X : Type 0} → Source → ℕ → Both (MutBor (List ℕ)) X → Said ℕ
exporting p count out = export_of p count (length out.entry.now)
