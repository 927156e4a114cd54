-- A record that is written: its length, its parts stored one after the other, and what writing says, case by case. Assumes nothing.
use Prim.Native.Nat.{ℕ, ◌+◌, ◌-◌, ◌*◌, ◌≤◌, ◌<◌}
use mathlib.Core.Path.{◌≡◌, sym, ◌∙◌}
use mathlib.Core.List.{List, ◌++◌}
use borrow.Author.Tests.{lt-ltb, le-ltb}
use lib.ListN.{length, length-append}
use lib.Seq.{sets}
use lib.IntN.{ℤ}
use Rattle.meaning.specs.Refusals.{Gives, Number, tried}
use Rattle.meaning.specs.Column.{Column, start_of, end_of, step_of, end_before, runs, source_of}
use Rattle.meaning.specs.Calls.{check_of}
use Rattle.meaning.specs.Parts.{joined}
use Rattle.meaning.proofs.Judging.{Passes, refused-first, passes-first}
use Rattle.meaning.proofs.Parts.{sets-append, joined_length, joined-more}
use Rattle.codec.specs.Bytes.{le_bytes, of_signed, encode}
use Rattle.codec.specs.Record.{run_bytes, run_out, record_of, write_of}
use Rattle.codec.proofs.Bytes.{le_bytes-length}

-- ---- lengths

pub run_length : (start step : ℤ) (count : ℕ) → length (run_bytes start step count) ≡ 14
unfolding run_bytes
run_length start step count = simp (length-append, le_bytes-length)

pub record-length : (c : Column) → length (record_of c) ≡ 6 + 14 * runs c
unfolding record_of
record-length c = simp (length-append, le_bytes-length, joined_length (run_out c) 14 (λ r. run_length _ _ _))

-- ---- parts that are stored one after the other

pub run-stored : (start step : ℤ) (count x y at : ℕ) (l a b d : List ℕ) → a ≡ sets l at (le_bytes 8 x) → b ≡ sets a (at + 8) (le_bytes 2 y) → d ≡ sets b (at + 10) (le_bytes 4 count)
    → x ≡ of_signed 8 start → y ≡ of_signed 2 step → d ≡ sets l at (run_bytes start step count)
unfolding run_bytes
run-stored start step count x y at l a b d ea eb ed ex ey =
    rw (ed, eb, ea, ex, ey)
    (sym (sets-append (encode 8 start ++ encode 2 step) (le_bytes 4 count) l at ∙ rw (sets-append, length-append, le_bytes-length, le_bytes-length)))

-- one run more of a column
pub runs-stored : (c : Column) (i last : ℕ) (start step : ℤ) (l old new : List ℕ) → last ≡ end_before c.ends i → start ≡ start_of c i → step ≡ step_of c i
    → l ≡ sets old 6 (joined (run_out c) i) → new ≡ sets l (6 + 14 * i) (run_bytes start step (end_of c i - last)) → new ≡ sets old 6 (joined (run_out c) (i + 1))
runs-stored c i last start step l old new el es ed e is =
    is ∙ joined-more (run_out c) 14 (λ r. run_length _ _ _) l old (run_bytes start step (end_of c i - last)) 6 i e (rw (el, es, ed))

pub record-stored : (c : Column) (n : ℕ) (l a b d : List ℕ) → n ≡ runs c → a ≡ sets l 0 (le_bytes 4 (2 + 14 * n)) → b ≡ sets a 4 (le_bytes 2 1) → d ≡ sets b 6 (joined (run_out c) n)
    → d ≡ sets l 0 (record_of c)
unfolding record_of
record-stored c n l a b d en ea eb ed =
    rw (ed, eb, ea, en)
    (sym (sets-append (le_bytes 4 (2 + 14 * runs c) ++ le_bytes 2 1) (joined (run_out c) (runs c)) l 0 ∙ rw (sets-append, length-append, le_bytes-length, le_bytes-length)))

-- ---- what writing says

module _ (c : Column) (room : ℕ) where
  pub write-refused : (k : ℕ) → Number k ≡ check_of (source_of c) → Number k ≡ write_of c room
  unfolding write_of tried
  write-refused k h = refused-first (source_of c) Number _ k h

  module _ (s : Passes (source_of c)) where
    pub write-short : room < 6 + 14 * runs c → Number 10 ≡ write_of c room
    unfolding write_of tried
    write-short l = rw (lt-ltb room (6 + 14 * runs c) l) (passes-first (source_of c) Number (Number 10) s)

    pub write-fine : 6 + 14 * runs c ≤ room → Gives (6 + 14 * runs c) ≡ write_of c room
    unfolding write_of tried
    write-fine l = rw (le-ltb room (6 + 14 * runs c) l) (passes-first (source_of c) Number _ s)
