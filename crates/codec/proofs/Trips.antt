-- The theorems of the round trip: "Writing is the reverse, .. and gives the same bytes back". Assumes nothing.
use Prim.Native.Nat.{ℕ, zero, suc, ◌+◌, ◌-◌, ◌*◌, ◌/◌, ◌≤◌, ◌<◌}
use mathlib.Core.Path.{◌≡◌, refl, sym, ap, ◌∙◌}
use mathlib.Core.Bool.{true}
use mathlib.Core.List.{List, [], ◌∷◌, ◌++◌, append_assoc}
use native.Mathlib.Omega.{arith}
use native.Mathlib.Nat.{le_refl}
use borrow.Author.Tests.{ltb-true, not-false}
use lib.ListN.{length, take, drop, length-append}
use lib.Seq.{take_at, drop_at, drop-drop, drop-append-le}
use lib.IntN.{ℤ, pos, negsuc}
use lib.Signed.{mag}
use Rattle.keys.specs.Widths.{fits_in, half64, half16}
use Rattle.keys.proofs.Widths.{in-mag}
use Rattle.meaning.specs.Refusals.{Gives, Number}
use Rattle.meaning.specs.Column.{Column, column_of, start_of, end_of, step_of, end_before, runs, ends_ok, reach_ok, sound, source_of}
use Rattle.meaning.specs.Parts.{joined}
use Rattle.meaning.specs.Calls.{check_of}
use Rattle.meaning.proofs.Calls.{check-fine}
use Rattle.meaning.proofs.Judging.{Clear, gives-clear, sound-passes}
use Rattle.meaning.proofs.Tried.{clear-front, clear-gives}
use Rattle.meaning.proofs.Parts.{joined_length, joined-from, each-is}
use Rattle.meaning.proofs.Runs.{before-zero, before-suc}
use Rattle.meaning.proofs.Soundness.{Sound, sound-parts}
use Rattle.codec.specs.Bytes.{le_val, le_bytes, of_signed, decode, encode, bytes_at}
use Rattle.codec.specs.Record.{run_bytes, run_out, record_of, write_of, length_in, kind_in, runs_in, start_in, step_in, count_in, total_in, column_to, column_in, head_trials, rest_trials, read_trials, Found, read_of}
use Rattle.codec.proofs.Bytes.{Bytes, le_bytes-length, le_val-le_bytes, decode-encode, part-more, number-back, signed_back}
use Rattle.codec.proofs.Opening.{open_of, opened, Opens, clear-opens}
use Rattle.codec.proofs.Columns.{runs-are, shape-fine, start_is, step_is, count-is}
use Rattle.codec.proofs.Reading.{found, column-fine}
use Rattle.codec.proofs.Writing.{run_length, record-length, write-fine}

-- three parts, one after the other: what stands at the place of each
module _ (a b d : List ℕ) where
  front : (k : ℕ) → length a ≡ k → take k (a ++ b ++ d) ≡ a
  front k e = rw append_assoc (take_at a (b ++ d) k e)

  middle : (j k : ℕ) → length a ≡ j → length b ≡ k → take k (drop j (a ++ b ++ d)) ≡ b
  middle j k e f = rw (append_assoc, drop_at a (b ++ d) j e) (take_at b d k f)

  behind : (j k : ℕ) → length a ≡ j → length b ≡ k → drop (j + k) (a ++ b ++ d) ≡ d
  behind j k e f = drop_at (a ++ b) d (j + k) (rw (length-append, e, f))

-- a run's bytes: its start, step and length
module _ (start step : ℤ) (count : ℕ) (t : List ℕ) where
  start-there : take 8 (run_bytes start step count ++ t) ≡ encode 8 start
  unfolding run_bytes
  start-there = rw (append_assoc (encode 8 start ++ encode 2 step) (le_bytes 4 count) t) (front (encode 8 start) (encode 2 step) (le_bytes 4 count ++ t) 8 (le_bytes-length 8 (of_signed 8 start)))

  step-there : take 2 (drop 8 (run_bytes start step count ++ t)) ≡ encode 2 step
  unfolding run_bytes
  step-there = rw (append_assoc (encode 8 start ++ encode 2 step) (le_bytes 4 count) t)
      (middle (encode 8 start) (encode 2 step) (le_bytes 4 count ++ t) 8 2 (le_bytes-length 8 (of_signed 8 start)) (le_bytes-length 2 (of_signed 2 step)))

  count-there : take 4 (drop 10 (run_bytes start step count ++ t)) ≡ le_bytes 4 count
  unfolding run_bytes
  count-there = rw (append_assoc (encode 8 start ++ encode 2 step) (le_bytes 4 count) t, behind (encode 8 start) (encode 2 step) (le_bytes 4 count ++ t) 8 2 (le_bytes-length 8 (of_signed 8 start)) (le_bytes-length 2 (of_signed 2 step)))
      (take_at (le_bytes 4 count) t 4 (le_bytes-length 4 count))

-- ---- reading what was written

pub same-column : (x y : Column) → x.starts ≡ y.starts → x.ends ≡ y.ends → x.steps ≡ y.steps → x ≡ y
same-column x y p q r = λ i. record { starts = p i; ends = q i; steps = r i }

-- a column whose starts are i64s and whose steps are i16s
pub record Held (c : Column) : Type 0 where
  pub starts_fit : (r : ℕ) → r < runs c → fits_in half64 (start_of c r) ≡ true
  pub steps-fit : (r : ℕ) → r < runs c → fits_in half16 (step_of c r) ≡ true

module _ (c : Column) (s : sound c ≡ true) (held : Held c) (rest : List ℕ) where
  abbrev head : List ℕ
  head = le_bytes 4 (2 + 14 * runs c)

  abbrev body : List ℕ
  body = joined (run_out c) (runs c)

  known : Sound c
  known = sound-parts c s

  abbrev written : List ℕ
  written = record_of c ++ rest

  parts : written ≡ head ++ le_bytes 2 1 ++ (body ++ rest)
  unfolding record_of
  parts = append_assoc (head ++ le_bytes 2 1) body rest

  size_back : length_in written ≡ 2 + 14 * runs c
  size_back =
      ap le_val (ap (take 4) parts ∙ front head (le_bytes 2 1) (body ++ rest) 4 (le_bytes-length 4 (2 + 14 * runs c)))
      ∙ le_val-le_bytes 4 (2 + 14 * runs c) (omega (arith, known.shaped.few))

  kind-back : kind_in written ≡ 1
  kind-back =
      ap le_val (ap (λ x. bytes_at x 4 2) parts ∙ middle head (le_bytes 2 1) (body ++ rest) 4 2 (le_bytes-length 4 (2 + 14 * runs c)) (le_bytes-length 2 1))
      ∙ le_val-le_bytes 2 1 (omega arith)

  runs-back : runs_in written ≡ runs c
  runs-back = rw size_back (omega arith)

  -- what stands from run r on
  from : (r : ℕ) → r < runs c → (t : List ℕ) × (drop (6 + 14 * r) written ≡ run_out c r ++ t)
  from r l =
      let t = joined-from (run_out c) 14 (λ k. run_length _ _ _) r (runs c) l in
      let long : 14 * r ≤ length body = rw (joined_length (run_out c) 14 (λ k. run_length _ _ _) (runs c)) (omega arith) in (
        t.0 ++ rest,
        sym (drop-drop (14 * r) 6 written)
            ∙ ap (drop (14 * r)) (ap (drop 6) parts ∙ behind head (le_bytes 2 1) (body ++ rest) 4 2 (le_bytes-length 4 (2 + 14 * runs c)) (le_bytes-length 2 1))
            ∙ drop-append-le (14 * r) body rest long ∙ ap (λ x. x ++ rest) t.1 ∙ append_assoc (run_out c r) t.0 rest,
      )

  module _ (r : ℕ) (l : r < runs c) where
    later : (j : ℕ) → drop (6 + 14 * r + j) written ≡ drop j (run_out c r ++ (from r l).0)
    later j = sym (drop-drop j (6 + 14 * r) written) ∙ ap (drop j) (from r l).1

    start_back : start_in written r ≡ start_of c r
    start_back =
        ap (decode 8) (ap (take 8) (from r l).1 ∙ start-there _ _ _ (from r l).0)
        ∙ decode-encode 7 (start_of c r) (omega (arith, ltb-true (mag (start_of c r)) half64 (sym (in-mag half64 (start_of c r)) ∙ held.starts_fit r l)))

    step_back : step_in written r ≡ step_of c r
    step_back =
        ap (decode 2) (ap (take 2) (later 8) ∙ step-there _ _ _ (from r l).0)
        ∙ decode-encode 1 (step_of c r) (omega (arith, ltb-true (mag (step_of c r)) half16 (sym (in-mag half16 (step_of c r)) ∙ held.steps-fit r l)))

    count-back : count_in written r ≡ end_of c r - end_before c.ends r
    count-back =
        ap le_val (ap (take 4) (later 10) ∙ count-there _ _ _ (from r l).0)
        ∙ le_val-le_bytes 4 (end_of c r - end_before c.ends r) (omega (arith, known.most r l))

  total-back : (r : ℕ) → r ≤ runs c → total_in written r ≡ end_before c.ends r
  unfolding total_in
  total-back zero l = before-zero c.ends {r = 0} refl
  total-back (suc r) l = rw (total-back r (omega arith), count-back r l, before-suc c.ends r) (omega (arith, known.up r l))

  column-back : column_in written ≡ c
  column-back = same-column (column_in written) c
      (each-is (start_in written) (pos 0) c.starts (runs_in written) (runs-back ∙ sym known.shaped.starts-long) (λ k l. start_back k (rw runs-back at l)))
      (each-is (λ r. total_in written (suc r)) 0 c.ends (runs_in written) runs-back (λ k l. total-back (suc k) (rw runs-back at l) ∙ before-suc c.ends k))
      (each-is (step_in written) (pos 0) c.steps (runs_in written) (runs-back ∙ sym known.shaped.steps-long) (λ k l. step_back k (rw runs-back at l)))

  opens_back : Gives (runs c) ≡ open_of written
  opens_back =
      let long : length written ≡ 6 + 14 * runs c + length rest = length-append (record_of c) rest ∙ ap (λ n. n + length rest) (record-length c) in
      let count : runs c ≡ (2 + 14 * runs c - 2) / 14 = omega arith in
      ap Gives count
      ∙ opened written (omega arith) (2 + 14 * runs c) (sym size_back) (omega arith) (omega (arith, known.shaped.few)) (omega arith) 1 (sym kind-back) refl (omega arith)

  -- reading what was written, with room for it, gives the same column and uses all its bytes, whatever follows
  pub read-written : (starts ends steps : ℕ) → runs c ≤ starts → runs c ≤ ends → runs c ≤ steps
      → (read_of (record_of c ++ rest) starts ends steps ≡ Gives (record { count = runs c; used = length (record_of c) })) × (column_in (record_of c ++ rest) ≡ c)
  read-written starts ends steps ls le lt =
      let same : column_to written (runs c) ≡ c = rw runs-back at column-back in
      (rw (record-length c) (sym (column-fine written starts ends steps (runs c) opens_back ls le lt (check-fine (source_of c) (sound-passes c s) ∙ ap (λ (d : Column). check_of (source_of d)) (sym same)))), column-back)

-- ---- writing what was read

module _ (bytes : List ℕ) (all : Bytes bytes) (n : ℕ) (o : Opens bytes n) where
  run-same : (r : ℕ) → r < n → run_out (column_to bytes n) r ≡ bytes_at bytes (6 + 14 * r) 14
  unfolding run_bytes
  run-same r l =
      let at = 6 + 14 * r in
      let start : encode 8 (start_in bytes r) ≡ bytes_at bytes at 8 = signed_back bytes at 8 (omega (arith, o.there)) all in
      let step : encode 2 (step_in bytes r) ≡ bytes_at bytes (at + 8) 2 = signed_back bytes (at + 8) 2 (omega (arith, o.there)) all in
      let count : le_bytes 4 (count_in bytes r) ≡ bytes_at bytes (at + 10) 4 = number-back bytes (at + 10) 4 (omega (arith, o.there)) all in
      rw (start_is bytes n r l, step_is bytes n r l, count-is bytes n r l, start, step, count, part-more bytes at 8 2) (part-more bytes at 10 4)

  body_same : (m : ℕ) → m ≤ n → joined (run_out (column_to bytes n)) m ≡ bytes_at bytes 6 (14 * m)
  unfolding joined
  body_same zero l = refl
  body_same (suc m) l =
      let e : 14 * suc m ≡ 14 * m + 14 = omega arith in
      rw (body_same m (omega arith), run-same m l, e) (part-more bytes 6 (14 * m) 14)

  record_same : record_of (column_to bytes n) ≡ take (6 + 14 * n) bytes
  unfolding record_of
  record_same =
      let size : le_bytes 4 (2 + 14 * n) ≡ bytes_at bytes 0 4 = ap (le_bytes 4) (sym o.size) ∙ number-back bytes 0 4 (omega (arith, o.there)) all in
      let kind : le_bytes 2 1 ≡ bytes_at bytes 4 2 = ap (le_bytes 2) (sym o.kind) ∙ number-back bytes 4 2 (omega (arith, o.there)) all in
      rw (runs-are bytes n, size, kind, body_same n (le_refl n), part-more bytes 0 4 2) (part-more bytes 0 6 (14 * n))

module _ (bytes : List ℕ) (starts ends steps : ℕ) (f : Found) (h : read_of bytes starts ends steps ≡ Gives f) where
  passes : Clear (read_trials bytes starts ends steps)
  unfolding read_of
  passes = gives-clear _ f (read_trials bytes starts ends steps) h

  right : Opens bytes (runs_in bytes)
  right = clear-opens bytes (clear-front (head_trials bytes) (rest_trials bytes starts ends steps) passes)

  -- what an accepted reading answers,
  pub found-is : f ≡ record { count = runs_in bytes; used = 4 + length_in bytes }
  unfolding read_of
  found-is = same (sym h ∙ clear-gives Number (read_trials bytes starts ends steps) (found bytes) passes)
    where
      same : Gives f ≡ found bytes → f ≡ record { count = runs_in bytes; used = 4 + length_in bytes }
      same e = cc

  -- and that the column which it gives is sound
  pub read-sound : sound (column_in bytes) ≡ true
  unfolding sound
  read-sound =
      let p = passes.1.1.1.1.1.1 in
      rw (shape-fine bytes (runs_in bytes) right.few, not-false (ends_ok (column_in bytes).ends) p.0, not-false (reach_ok half64 (column_in bytes)) p.1.0)

  -- writing what was read gives the same bytes back
  pub write_read : Bytes bytes → (room : ℕ) → f.used ≤ room → (write_of (column_in bytes) room ≡ Gives f.used) × (record_of (column_in bytes) ≡ take f.used bytes)
  write_read all room l =
      let used : f.used ≡ 6 + 14 * runs_in bytes = ap (λ x. x.used) found-is ∙ omega (arith, right.size) in
      let same : 6 + 14 * runs (column_in bytes) ≡ f.used = omega (arith, used, runs-are bytes (runs_in bytes)) in (
        sym (write-fine (column_in bytes) room (sound-passes (column_in bytes) read-sound) (omega arith)) ∙ ap Gives same,
        rw used (record_same bytes all (runs_in bytes) right),
      )

-- ---- "one run (10,-5,2) is stored as 10 00 00 00 01 00 0A 00 00 00 00 00 00 00 FB FF 02 00 00 00"

pub example : record_of (column_of (pos 10 ∷ []) (2 ∷ []) (negsuc 4 ∷ []))
    ≡ 0x10 ∷ 0 ∷ 0 ∷ 0 ∷ 1 ∷ 0 ∷ 0x0A ∷ 0 ∷ 0 ∷ 0 ∷ 0 ∷ 0 ∷ 0 ∷ 0 ∷ 0xFB ∷ 0xFF ∷ 2 ∷ 0 ∷ 0 ∷ 0 ∷ []
unfolding record_of joined run_bytes le_bytes of_signed end_before
example = refl
