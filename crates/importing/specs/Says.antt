-- "If an answer is an enum, a definition states this paper's number and values for each of its cases." Assumes nothing.
use Rattle.std.specs.Prelude.{ℕ, List, length, ℤ}
use denote.Triple.Both.{Both}
use Rattle.std.specs.Borrow.{Bor, MutBor}
use Rattle.meaning.specs.Refusals.{Said, Gives, Number, number_of}
use Rattle.importing.specs.Import.{Imports, import_of}
use Rattle.importing.specs.declared.Imported.{Imported}
use Rattle.importing.specs.declared.Imported.TheVariants.{Runs, Refused}

-- the run count and the ones, or a refusal
abbrev pub says_imported : Imported → Said Imports
says_imported (Runs n ones) = Gives (record { runs = n; ones = ones })
says_imported (Refused why) = Number (number_of why)

-- as a contract names it: what is to be said of these bytes, imported into these arrays
abbrev pub importing : {A B C D : Type 0} → Both (Bor (List ℕ)) A → ℕ → Both (MutBor (List ℤ)) B → Both (MutBor (List ℕ)) C → Both (MutBor (List ℤ)) D → Said Imports
importing bytes count starts ends steps =
    import_of bytes.entry.now count (length starts.entry.now) (length ends.entry.now) (length steps.entry.now)
