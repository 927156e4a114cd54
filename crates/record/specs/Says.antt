-- "If an answer is an enum, a definition states this paper's number and values for each of its cases." Assumes nothing.
use Rattle.std.specs.Prelude.{ℕ, List, length, ℤ}
use denote.Triple.Both.{Both}
use Rattle.std.specs.Borrow.{Bor, MutBor}
use Rattle.meaning.specs.Refusals.{Said, Gives, Number, number_of}
use Rattle.meaning.specs.Column.{Column}
use Rattle.codec.specs.Record.{Found, read_of, write_of}
use Rattle.record.specs.declared.ReadRecord.{ReadRecord}
use Rattle.record.specs.declared.ReadRecord.TheVariants.{Runs, Refused as ReadRefused}
use Rattle.record.specs.declared.Written.{Written}
use Rattle.record.specs.declared.Written.TheVariants.{Bytes, Refused as WriteRefused}

-- "the run count and the bytes used", or a refusal
abbrev pub says_read : ReadRecord → Said Found
says_read (Runs n used) = Gives (record { count = n; used = used })
says_read (ReadRefused why) = Number (number_of why)

-- "the bytes written", or a refusal
abbrev pub says_written : Written → Said ℕ
says_written (Bytes n) = Gives n
says_written (WriteRefused why) = Number (number_of why)

-- as a contract names it: what is to be said of these bytes, read into these arrays
abbrev pub reading : {A B C D : Type 0} → Both (Bor (List ℕ)) A → Both (MutBor (List ℤ)) B → Both (MutBor (List ℕ)) C → Both (MutBor (List ℤ)) D → Said Found
reading bytes starts ends steps = read_of bytes.entry.now (length starts.entry.now) (length ends.entry.now) (length steps.entry.now)

-- and of a column, written into this output
abbrev pub writing : {X : Type 0} → Column → Both (MutBor (List ℕ)) X → Said ℕ
writing c out = write_of c (length out.entry.now)
