-- The flattened answers of import and export. Assumes nothing.
use Rattle.std.specs.Prelude.{ℕ}
use Rattle.meaning.specs.Refusals.{Said}
use Rattle.importing.specs.Import.{Imports}
use Rattle.c_forms.specs.Flat.{refusal_in, given_or}
use Rattle.c_bitmap.specs.declared.FlatImported.{FlatImported}
use Rattle.c_bitmap.specs.declared.FlatExported.{FlatExported}

-- a refusal's number or 0, and the run count and the ones, or 0
abbrev pub flat_imported : Said Imports → FlatImported
flat_imported s = record { refusal = refusal_in s; runs = (given_or (record { runs = 0; ones = 0 }) s).runs; ones = (given_or (record { runs = 0; ones = 0 }) s).ones }

-- a refusal's number or 0, and the bytes written or 0
abbrev pub flat_exported : Said ℕ → FlatExported
flat_exported s = record { refusal = refusal_in s; bytes = given_or 0 s }
