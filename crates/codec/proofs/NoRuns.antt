-- "The empty column is valid", stored: a record of no runs. Assumes nothing.
use Prim.Native.Nat.{ℕ, ◌≤◌, ◌<◌}
use mathlib.Core.Path.{◌≡◌, refl}
use mathlib.Core.Bool.{true}
use mathlib.Core.List.{List, ◌++◌}
use native.Mathlib.Omega.{arith}
use borrow.Author.Tests.{lt-ltb, le-ltb}
use Rattle.ranges.specs.Ranges.{all_for}
use Rattle.meaning.specs.Refusals.{Gives, Number, tried}
use Rattle.meaning.specs.Column.{shape_ok, ends_ok, reach_ok, sound}
use Rattle.meaning.specs.Parts.{joined}
use Rattle.codec.specs.Bytes.{le_bytes}
use Rattle.codec.specs.Record.{record_of, write_of, column_in, read_of}
use Rattle.codec.specs.Following.{no_runs, no_runs_bytes}
use Rattle.codec.proofs.Trips.{Held, read-written}

empty-sound : sound no_runs ≡ true
unfolding sound shape_ok ends_ok reach_ok all_for
empty-sound = refl

pub empty-record : record_of no_runs ≡ no_runs_bytes
unfolding record_of joined le_bytes
empty-record = refl

pub empty-written : (room : ℕ) → 6 ≤ room → write_of no_runs room ≡ Gives 6
unfolding write_of tried shape_ok ends_ok reach_ok all_for
empty-written room l = rw (le-ltb room 6 l)

pub empty-no-room : (room : ℕ) → room < 6 → write_of no_runs room ≡ Number 10
unfolding write_of tried shape_ok ends_ok reach_ok all_for
empty-no-room room l = rw (lt-ltb room 6 l)

-- read, whatever follows and into arrays of any length, they give no run and are all used
pub empty-read : (rest : List ℕ) (starts ends steps : ℕ)
    → (read_of (no_runs_bytes ++ rest) starts ends steps ≡ Gives (record { count = 0; used = 6 })) × (column_in (no_runs_bytes ++ rest) ≡ no_runs)
empty-read rest starts ends steps =
    rw empty-record at (read-written no_runs empty-sound held rest starts ends steps (omega arith) (omega arith) (omega arith))
  where
    held : Held no_runs
    held = record { starts_fit = λ r l. absurd (omega arith); steps-fit = λ r l. absurd (omega arith) }
