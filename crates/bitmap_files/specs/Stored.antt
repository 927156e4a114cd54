-- A bitmap as a stored record: that of the column which is imported from it. Assumes nothing.
use Rattle.std.specs.Prelude.{ℕ, List}
use Rattle.meaning.specs.Refusals.{Said, Number, tried}
use Rattle.codec.specs.Record.{write_of}
use Rattle.importing.specs.Import.{imported_column, import_tests}

-- refused as the import is, with room for every run that a column may have; else what writing the column into so many places says
unfoldable pub stored_of : List ℕ → ℕ → ℕ → Said ℕ
stored_of bytes count places = tried Number (import_tests bytes count 4096 4096 4096) (write_of (imported_column bytes count) places)
