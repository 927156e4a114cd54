-- The flattened answers of reading and writing a stored record. Assumes nothing.
use Rattle.std.specs.Prelude.{ℕ}
use Rattle.meaning.specs.Refusals.{Said}
use Rattle.codec.specs.Record.{Found}
use Rattle.c_record.specs.declared.FlatRead.{FlatRead}
use Rattle.c_record.specs.declared.FlatWritten.{FlatWritten}
use Rattle.c_forms.specs.Flat.{refusal_in, given_or}

-- a refusal's number or 0; the run count and the bytes used, or 0 and 0
abbrev pub no_record : Found
no_record = record { count = 0; used = 0 }

abbrev pub flat_read : Said Found → FlatRead
flat_read s = record { refusal = refusal_in s; runs = (given_or no_record s).count; used = (given_or no_record s).used }

-- a refusal's number or 0, and the bytes written or 0
abbrev pub flat_written : Said ℕ → FlatWritten
flat_written s = record { refusal = refusal_in s; bytes = given_or 0 s }
