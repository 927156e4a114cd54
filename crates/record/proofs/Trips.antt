-- "Writing is the reverse, answers the bytes written and gives the same bytes back": the two calls one after the other. Assumes nothing.
use Prim.Native.Nat.{ℕ, ◌+◌, ◌*◌, ◌≤◌}
use mathlib.Core.Path.{◌≡◌, sym, ap, ◌∙◌}
use mathlib.Core.Bool.{true}
use mathlib.Core.List.{List, ◌++◌}
use lib.ListN.{length, take, drop}
use lib.Seq.{take_at}
use lib.IntN.{ℤ}
use Rattle.meaning.specs.Refusals.{Gives}
use Rattle.meaning.specs.Column.{Column, column_of, runs, sound}
use Rattle.meaning.specs.Outputs.{after}
use Rattle.meaning.proofs.Parts.{each-length}
use Rattle.meaning.proofs.Soundness.{sound-parts}
use Rattle.codec.specs.Record.{record_of, write_of, start_in, step_in, runs_in, column_in}
use Rattle.codec.proofs.Bytes.{Bytes as AllBytes}
use Rattle.codec.proofs.Columns.{runs-are}
use Rattle.codec.proofs.Exact.{write-accepts}
use Rattle.codec.proofs.Trips.{Held, same-column, read-written, found-is, write_read}
use Rattle.meaning.proofs.Judging.{sound-passes}
use Rattle.codec.proofs.Writing.{record-length, write-fine}
use Rattle.record.specs.declared.ReadRecord.{ReadRecord}
use Rattle.record.specs.declared.ReadRecord.TheVariants.{Runs}
use Rattle.record.specs.declared.Written.{Written}
use Rattle.record.specs.declared.Written.TheVariants.{Bytes}
use Rattle.record.specs.Says.{says_read, says_written}
use Rattle.record.proofs.Unique.{read-apart, written_apart, ReadMeets, WriteMeets}

-- a column that is written is sound, and its record has as many bytes as are answered
wrote : (c : Column) (room n : ℕ) → write_of c room ≡ Gives n → (sound c ≡ true) × (length (record_of c) ≡ n)
wrote c room n h =
    let fine = (write-accepts c room).0 (n, h) in
    (fine.0, record-length c ∙ same (write-fine c room (sound-passes c fine.0) fine.1 ∙ h))
  where
    same : Gives (6 + 14 * runs c) ≡ Gives n → 6 + 14 * runs c ≡ n
    same e = cc

-- A column was written. What the output holds then, read into arrays with room, gives the same three arrays' contents, and all bytes written are used.
pub read-after-write : (c : Column) (out out' : List ℕ) (n : ℕ) → Held c → WriteMeets c out (Bytes n) out'
    → (starts : List ℤ) (ends : List ℕ) (steps : List ℤ) → runs c ≤ length starts → runs c ≤ length ends → runs c ≤ length steps
    → (r : ReadRecord) (starts' : List ℤ) (ends' : List ℕ) (steps' : List ℤ) → ReadMeets out' starts ends steps r starts' ends' steps'
    → (r ≡ Runs (runs c) n) × (starts' ≡ c.starts ++ drop (runs c) starts) × (ends' ≡ c.ends ++ drop (runs c) ends) × (steps' ≡ c.steps ++ drop (runs c) steps)
read-after-write c out out' n held w starts ends steps ls le lt r starts' ends' steps' m =
    let fine = wrote c (length out) n (sym w.said) in
    let shaped = (sound-parts c fine.0).shaped in
    let trip = read-written c fine.0 held (drop (length (record_of c)) out) (length starts) (length ends) (length steps) ls le lt in
    let col : column_in out' ≡ c = ap column_in w.out-is ∙ trip.1 in
    let says : says_read r ≡ Gives (record { count = runs c; used = n }) = m.said ∙ rw (w.out-is, trip.0, fine.1) in
    let is : r ≡ Runs (runs c) n = read-apart r (Runs (runs c) n) says in (
      is,
      m.starts-are ∙ ap (λ d. after (says_read r) d.starts starts) col ∙ rw (says, shaped.starts-long),
      m.ends-are ∙ ap (λ d. after (says_read r) d.ends ends) col ∙ rw says,
      m.steps-are ∙ ap (λ d. after (says_read r) d.steps steps) col ∙ rw (says, shaped.steps-long),
    )

-- A record was read. Its column, the first places of the three arrays, written with room, gives the same bytes, as many as were used.
pub write-after-read : (bytes : List ℕ) (starts : List ℤ) (ends : List ℕ) (steps : List ℤ) (n used : ℕ) (starts' : List ℤ) (ends' : List ℕ) (steps' : List ℤ)
    → AllBytes bytes → ReadMeets bytes starts ends steps (Runs n used) starts' ends' steps'
    → (out : List ℕ) → used ≤ length out
    → (w : Written) (out' : List ℕ) → WriteMeets (column_of (take n starts') (take n ends') (take n steps')) out w out'
    → (w ≡ Bytes used) × (out' ≡ take used bytes ++ drop used out)
write-after-read bytes starts ends steps n used starts' ends' steps' all m out room w out' v =
    let accepted = sym m.said in
    let is = found-is bytes (length starts) (length ends) (length steps) (record { count = n; used = used }) accepted in
    let count : runs_in bytes ≡ n = sym (ap (λ f. f.count) is) in
    let col : column_of (take n starts') (take n ends') (take n steps') ≡ column_in bytes = same-column _ (column_in bytes)
    (ap (take n) m.starts-are ∙ take_at (column_in bytes).starts _ n (each-length (start_in bytes) (runs_in bytes) ∙ count))
    (ap (take n) m.ends-are ∙ take_at (column_in bytes).ends _ n (runs-are bytes (runs_in bytes) ∙ count))
    (ap (take n) m.steps-are ∙ take_at (column_in bytes).steps _ n (each-length (step_in bytes) (runs_in bytes) ∙ count)) in
    let trip = write_read bytes (length starts) (length ends) (length steps) (record { count = n; used = used }) accepted all (length out) room in
    let says : says_written w ≡ Gives used = v.said ∙ ap (λ c. write_of c (length out)) col ∙ trip.0 in
    let long : length (record_of (column_in bytes)) ≡ used = (wrote (column_in bytes) (length out) used trip.0).1 in
    (written_apart w (Bytes used) says, v.out-is ∙ rw (says, col, long, trip.1))
