-- "what follows the record is not read": of any bytes, whatever they hold. Assumes nothing.
use Prim.Native.Nat.{ℕ, zero, suc, ◌+◌, ◌-◌, ◌*◌, ◌/◌, ◌≤◌, ◌<◌}
use mathlib.Core.Path.{◌≡◌, refl, sym, ap, ◌∙◌}
use mathlib.Core.Bool.{◌||◌}
use mathlib.Core.List.{List, ◌++◌}
use native.Mathlib.Omega.{arith}
use borrow.Author.Tests.{le-ltb, ltb-false}
use lib.Dec.{ltb}
use lib.ListN.{length, take, drop, length-append, length-drop, take-append-drop}
use lib.Seq.{take-append-le, drop-append-le, length-take-le}
use lib.IntN.{pos}
use Rattle.ranges.proofs.Bools.{either, or_left}
use Rattle.keys.specs.Widths.{half64}
use Rattle.meaning.specs.Refusals.{tried}
use Rattle.meaning.specs.Column.{Column, ends_ok, reach_ok}
use Rattle.meaning.specs.Parts.{each}
use Rattle.meaning.proofs.Parts.{each-length, each_at, each-is}
use Rattle.codec.specs.Bytes.{le_val, decode, bytes_at}
use Rattle.codec.specs.Record.{length_in, kind_in, runs_in, start_in, step_in, total_in, column_in, read_of}
use Rattle.codec.specs.Following.{There}
use Rattle.codec.proofs.Trips.{same-column}

-- bytes that stand in b, whatever follows b
part_same : (b rest : List ℕ) (at k : ℕ) → at + k ≤ length b → bytes_at (b ++ rest) at k ≡ bytes_at b at k
part_same b rest at k l = ap (take k) (drop-append-le at b rest (omega arith)) ∙ take-append-le k (drop at b) rest (rw length-drop (omega arith))

pub length-same : (b rest : List ℕ) → 4 ≤ length b → length_in (b ++ rest) ≡ length_in b
length-same b rest l = ap le_val (part_same b rest 0 4 l)

-- bytes b that hold a whole record, by what its length says, and any that follow
module _ (b rest : List ℕ) (there : There b) where
  -- the runs that it says are in b
  run_inside : (r : ℕ) → r < runs_in b → 6 + 14 * r + 14 ≤ length b
  run_inside r l = omega arith

  start-same : (r : ℕ) → r < runs_in b → start_in (b ++ rest) r ≡ start_in b r
  start-same r l = ap (decode 8) (part_same b rest (6 + 14 * r) 8 (omega (arith, run_inside r l)))

  step_same : (r : ℕ) → r < runs_in b → step_in (b ++ rest) r ≡ step_in b r
  step_same r l = ap (decode 2) (part_same b rest (6 + 14 * r + 8) 2 (omega (arith, run_inside r l)))

  total-same : (r : ℕ) → r ≤ runs_in b → total_in (b ++ rest) r ≡ total_in b r
  unfolding total_in
  total-same zero l = refl
  total-same (suc r) l = rw (total-same r (omega arith), part_same b rest (6 + 14 * r + 10) 4 (omega (arith, run_inside r l)))

  runs_same : runs_in (b ++ rest) ≡ runs_in b
  runs_same = ap (λ n. (n - 2) / 14) (length-same b rest (omega arith))

  -- values that agree at each run
  same-each : {A : Type 0} (f g : ℕ → A) (d : A) → ((r : ℕ) → r < runs_in b → f r ≡ g r) → each f (runs_in (b ++ rest)) ≡ each g (runs_in b)
  same-each f g d h =
      each-is f d (each g (runs_in b)) (runs_in (b ++ rest)) (runs_same ∙ sym (each-length g (runs_in b)))
      (λ r l. let m : r < runs_in b = rw runs_same at l in h r m ∙ sym (each_at g d r (runs_in b) m))

  -- the column that is read is the same,
  pub column-same : column_in (b ++ rest) ≡ column_in b
  column-same = same-column (column_in (b ++ rest)) (column_in b)
      (same-each (start_in (b ++ rest)) (start_in b) (pos 0) start-same)
      (same-each (λ r. total_in (b ++ rest) (suc r)) (λ r. total_in b (suc r)) 0 (λ r l. total-same (suc r) l))
      (same-each (step_in (b ++ rest)) (step_in b) (pos 0) step_same)

  kind-same : 2 ≤ length_in b → kind_in (b ++ rest) ≡ kind_in b
  kind-same l = ap le_val (part_same b rest 4 2 (omega arith))

  -- and so is what reading says, also where it refuses
  pub read_same : (starts ends steps : ℕ) → read_of (b ++ rest) starts ends steps ≡ read_of b starts ends steps
  unfolding read_of tried
  read_same starts ends steps =
      let longer : length b ≤ length (b ++ rest) = rw length-append (omega arith) in
      let size = length-same b rest (omega arith) in
      let ends_same : ends_ok (column_in (b ++ rest)).ends ≡ ends_ok (column_in b).ends = ap (λ (c : Column). ends_ok c.ends) column-same in
      let reach-same : reach_ok half64 (column_in (b ++ rest)) ≡ reach_ok half64 (column_in b) = ap (reach_ok half64) column-same in
      rw (ends_same, reach-same, le-ltb (length (b ++ rest)) 4 (omega arith), le-ltb (length b) 4 (omega arith), size, le-ltb (length (b ++ rest)) (4 + length_in b) (omega arith))
      (either (ltb (length_in b) 2 || ltb 57346 (length_in b))
      (λ t. rw t)
      (λ t. rw (t, kind-same (ltb-false (length_in b) 2 (or_left (ltb (length_in b) 2) (ltb 57346 (length_in b)) t)), le-ltb (length b) (4 + length_in b) there)))

-- The other way round: of bytes that hold a whole record no more is read than it says, its length's four bytes among them.
module _ (b : List ℕ) (there : There b) where
  abbrev alone : List ℕ
  alone = take (4 + length_in b) b

  parts : alone ++ drop (4 + length_in b) b ≡ b
  parts = take-append-drop (4 + length_in b) b

  long : length alone ≡ 4 + length_in b
  long = length-take-le (4 + length_in b) b there

  said : length_in alone ≡ length_in b
  said = sym (length-same alone (drop (4 + length_in b) b) (rw long (omega arith))) ∙ ap length_in parts

  pub record-alone : (starts ends steps : ℕ) → (read_of alone starts ends steps ≡ read_of b starts ends steps) × (column_in alone ≡ column_in b)
  record-alone starts ends steps =
      let all : There alone = omega (arith, long, said) in (
        sym (read_same alone (drop (4 + length_in b) b) all starts ends steps) ∙ ap (λ x. read_of x starts ends steps) parts,
        sym (column-same alone (drop (4 + length_in b) b) all) ∙ ap column_in parts,
      )
