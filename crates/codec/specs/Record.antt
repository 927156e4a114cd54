-- Document 01, "Stored record": a column as bytes, bytes as a column, and what writing and reading are to say. Assumes nothing.
use Rattle.std.specs.Prelude.{ℕ, zero, suc, ◌+◌, ◌-◌, ◌*◌, ◌/◌, ◌%◌, not, ◌||◌, List, [], ◌∷◌, ◌++◌, ltb, eqb, length, ℤ}
use Rattle.keys.specs.Widths.{half64}
use Rattle.meaning.specs.declared.Refusal.TheVariants.{Ends, Reach, Room, Cut, Kind, Size}
use Rattle.meaning.specs.Refusals.{Said, Gives, Number, Trial, tried, also, judged}
use Rattle.meaning.specs.Column.{Column, column_of, start_of, end_of, step_of, end_before, runs, ends_ok, reach_ok, source_of}
use Rattle.meaning.specs.Sequence.{on_source}
use Rattle.meaning.specs.Parts.{joined, each}
use Rattle.codec.specs.Bytes.{le_val, le_bytes, decode, encode, bytes_at}

-- ---- a column as bytes

-- "14 bytes a run: start (8, two's complement), step (2, two's complement), run length (4)"
unfoldable pub run_bytes : ℤ → ℤ → ℕ → List ℕ
run_bytes start step count = encode 8 start ++ encode 2 step ++ le_bytes 4 count

-- run r of a column
abbrev pub run_out : Column → ℕ → List ℕ
run_out c r = run_bytes (start_of c r) (step_of c r) (end_of c r - end_before c.ends r)

-- "Four bytes of length, counting all that follows; two bytes of kind, 1; then 14 bytes a run"
unfoldable pub record_of : Column → List ℕ
record_of c = le_bytes 4 (2 + 14 * runs c) ++ le_bytes 2 1 ++ joined (run_out c) (runs c)

-- write: "answers the bytes written"; 10 ROOM: "an output has fewer places than the answer needs"
unfoldable pub write_of : Column → ℕ → Said ℕ
write_of c room = judged Number (also Room (ltb room (6 + 14 * runs c)) (on_source (source_of c))) (Gives (6 + 14 * runs c))

-- ---- bytes as a column

-- "Four bytes of length"
abbrev pub length_in : List ℕ → ℕ
length_in bytes = le_val (bytes_at bytes 0 4)

-- "two bytes of kind"
abbrev pub kind_in : List ℕ → ℕ
kind_in bytes = le_val (bytes_at bytes 4 2)

-- "then 14 bytes a run": how many
abbrev pub runs_in : List ℕ → ℕ
runs_in bytes = (length_in bytes - 2) / 14

-- "start (8, two's complement), step (2, two's complement), run length (4)": those of run r
abbrev pub start_in : List ℕ → ℕ → ℤ
start_in bytes r = decode 8 (bytes_at bytes (6 + 14 * r) 8)

abbrev pub step_in : List ℕ → ℕ → ℤ
step_in bytes r = decode 2 (bytes_at bytes (6 + 14 * r + 8) 2)

abbrev pub count_in : List ℕ → ℕ → ℕ
count_in bytes r = le_val (bytes_at bytes (6 + 14 * r + 10) 4)

-- "run ends (.. counted from the column's beginning)": the first r run lengths added up
unfoldable pub total_in : List ℕ → ℕ → ℕ
total_in bytes zero = 0
total_in bytes (suc r) = total_in bytes r + count_in bytes r

-- the column of the first n runs, and of all
abbrev pub column_to : List ℕ → ℕ → Column
column_to bytes n = column_of (each (start_in bytes) n) (each (λ r. total_in bytes (suc r)) n) (each (step_in bytes) n)

abbrev pub column_in : List ℕ → Column
column_in bytes = column_to bytes (runs_in bytes)

-- "A record is tried: 4 bytes there (11), length range (13), bytes there (11), kind (12), multiple (13)",
abbrev pub head_trials : List ℕ → List Trial
head_trials bytes =
    record { why = Cut; holds = ltb (length bytes) 4 }
    ∷ record { why = Size; holds = ltb (length_in bytes) 2 || ltb 57346 (length_in bytes) }
    ∷ record { why = Cut; holds = ltb (length bytes) (4 + length_in bytes) }
    ∷ record { why = Kind; holds = not (eqb (kind_in bytes) 1) }
    ∷ record { why = Size; holds = not (eqb ((length_in bytes - 2) % 14) 0) }
    ∷ []

-- "room (10), then 2 and 3", with arrays of these lengths
abbrev pub rest_trials : List ℕ → ℕ → ℕ → ℕ → List Trial
rest_trials bytes starts ends steps =
    record { why = Room; holds = ltb starts (runs_in bytes) || ltb ends (runs_in bytes) || ltb steps (runs_in bytes) }
    ∷ record { why = Ends; holds = not (ends_ok (column_in bytes).ends) }
    ∷ record { why = Reach; holds = not (reach_ok half64 (column_in bytes)) }
    ∷ []

abbrev pub read_trials : List ℕ → ℕ → ℕ → ℕ → List Trial
read_trials bytes starts ends steps = head_trials bytes ++ rest_trials bytes starts ends steps

-- "Reading answers the run count and the bytes used"
pub record Found : Type 0 where
  pub count : ℕ
  pub used : ℕ

-- read: what it says
unfoldable pub read_of : List ℕ → ℕ → ℕ → ℕ → Said Found
read_of bytes starts ends steps = tried Number (read_trials bytes starts ends steps) (Gives (record { count = runs_in bytes; used = 4 + length_in bytes }))
