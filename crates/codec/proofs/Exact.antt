-- The table's "Given exactly if", for reading and writing a record. Assumes nothing.
use Prim.Native.Nat.{ℕ, ◌+◌, ◌-◌, ◌*◌, ◌%◌, ◌≤◌, ◌<◌}
use mathlib.Core.Path.{◌≡◌}
use mathlib.Core.Bool.{Bool, true, false, cond, not, ◌&&◌, ◌||◌}
use mathlib.Core.List.{List, [], ◌∷◌}
use mathlib.Core.Logic.Iff
use mathlib.Core.Logic.{◌↔◌, ◌⊎◌}
use lib.Dec.{ltb, eqb}
use lib.ListN.{length}
use Rattle.ranges.proofs.Bools.{In}
use Rattle.ranges.proofs.Reading.{reading, choosing, and-or, below, read-either, either-below, any_below}
use Rattle.keys.specs.Widths.{half64}
use Rattle.meaning.specs.Refusals.{Said, Gives, Number}
use Rattle.meaning.specs.Column.{Column, runs, shape_ok, ends_ok, reach_ok, sound}
use Rattle.meaning.proofs.Tried.{refuses, refused-exactly, refused-in, given-exactly}
use Rattle.codec.specs.Record.{length_in, kind_in, runs_in, column_in, read_trials, Found, read_of, write_of}
use Rattle.codec.specs.Exact.{Sized, Whole, Kinded, Formed, Roomy}

-- eight tests of which the second and the fifth are of one number
two-of-eight : (a b c d e f g h : Bool)
    → cond a false (cond b true (cond c false (cond d false (cond e true (cond f false (cond g false (cond h false false))))))) ≡ ((not a && b) || (not a && (not b && (not c && (not d && e)))))
two-of-eight a b c d e f g h = simp (choosing, and-or)

module _ (bytes : List ℕ) (starts ends steps : ℕ) where
  abbrev said : Said Found
  said = read_of bytes starts ends steps

  -- the first five tests
  abbrev short : Bool
  short = ltb (length bytes) 4

  abbrev size : Bool
  size = ltb (length_in bytes) 2 || ltb 57346 (length_in bytes)

  abbrev cut : Bool
  cut = ltb (length bytes) (4 + length_in bytes)

  abbrev kind : Bool
  kind = not (eqb (kind_in bytes) 1)

  abbrev uneven : Bool
  uneven = not (eqb ((length_in bytes - 2) % 14) 0)

  -- 11 CUT: "fewer than 4 bytes, or fewer than the length says"
  pub read-refuses-11 : (said ≡ Number 11) ↔ ((length bytes < 4) ⊎ (Sized bytes × (length bytes < 4 + length_in bytes)))
  unfolding read_of refuses
  read-refuses-11 = Iff.trans (refused-exactly _ 11 (read_trials bytes starts ends steps))
      (simp choosing (read-either _ _ (below _ _) (simp reading Iff.rfl)))

  -- 13 SIZE: "length under 2 or over 57,346, or length minus 2 no multiple of 14"
  pub read-refuses-13 : (said ≡ Number 13) ↔ (((4 ≤ length bytes) × ((length_in bytes < 2) ⊎ (57346 < length_in bytes))) ⊎ (Kinded bytes × ((length_in bytes - 2) % 14 ≡ 0 → ⊥)))
  unfolding read_of refuses
  read-refuses-13 = Iff.trans (refused-exactly _ 13 (read_trials bytes starts ends steps))
      (rw two-of-eight (read-either (not short && size) (not short && (not size && (not cut && (not kind && uneven)))) (simp (reading, either-below) Iff.rfl) (simp reading Iff.rfl)))

  -- 12 KIND: "kind is not 1"
  pub read-refuses-12 : (said ≡ Number 12) ↔ (Whole bytes × (kind_in bytes ≡ 1 → ⊥))
  unfolding read_of refuses
  read-refuses-12 = Iff.trans (refused-exactly _ 12 (read_trials bytes starts ends steps)) (simp choosing (simp reading Iff.rfl))

  -- 10 ROOM: "an output has fewer places than the answer needs"
  pub read-refuses-10 : (said ≡ Number 10) ↔ (Formed bytes × ((starts < runs_in bytes) ⊎ (ends < runs_in bytes) ⊎ (steps < runs_in bytes)))
  unfolding read_of refuses
  read-refuses-10 = Iff.trans (refused-exactly _ 10 (read_trials bytes starts ends steps)) (simp choosing (simp (reading, any_below) Iff.rfl))

  -- 2 ENDS and 3 REACH, of the column that is stored
  pub read-refuses-2 : (said ≡ Number 2) ↔ (Formed bytes × Roomy bytes starts ends steps × (ends_ok (column_in bytes).ends ≡ false))
  unfolding read_of refuses
  read-refuses-2 = Iff.trans (refused-exactly _ 2 (read_trials bytes starts ends steps)) (simp choosing (simp reading Iff.rfl))

  pub read-refuses-3 : (said ≡ Number 3) ↔ (Formed bytes × Roomy bytes starts ends steps × (ends_ok (column_in bytes).ends ≡ true) × (reach_ok half64 (column_in bytes) ≡ false))
  unfolding read_of refuses
  read-refuses-3 = Iff.trans (refused-exactly _ 3 (read_trials bytes starts ends steps)) (simp choosing (simp reading Iff.rfl))

  -- no other number is given: never 1
  pub read-numbers : (n : ℕ) → said ≡ Number n → In n (11 ∷ 13 ∷ 11 ∷ 12 ∷ 13 ∷ 10 ∷ 2 ∷ 3 ∷ [])
  unfolding read_of
  read-numbers n h = refused-in _ n (read_trials bytes starts ends steps) h

  -- accepted exactly if no test holds
  pub read-accepts : ((f : Found) × (said ≡ Gives f)) ↔ (Formed bytes × Roomy bytes starts ends steps × (ends_ok (column_in bytes).ends ≡ true) × (reach_ok half64 (column_in bytes) ≡ true))
  unfolding read_of
  read-accepts = Iff.trans (given-exactly _ (read_trials bytes starts ends steps)) (simp reading Iff.rfl)

-- ---- writing

module _ (c : Column) (room : ℕ) where
  abbrev answer : Said ℕ
  answer = write_of c room

  pub write-refuses-1 : (answer ≡ Number 1) ↔ (shape_ok c ≡ false)
  unfolding write_of refuses
  write-refuses-1 = Iff.trans (refused-exactly _ 1 _) (simp choosing (simp reading Iff.rfl))

  pub write-refuses-2 : (answer ≡ Number 2) ↔ ((shape_ok c ≡ true) × (ends_ok c.ends ≡ false))
  unfolding write_of refuses
  write-refuses-2 = Iff.trans (refused-exactly _ 2 _) (simp choosing (simp reading Iff.rfl))

  pub write-refuses-3 : (answer ≡ Number 3) ↔ ((shape_ok c ≡ true) × (ends_ok c.ends ≡ true) × (reach_ok half64 c ≡ false))
  unfolding write_of refuses
  write-refuses-3 = Iff.trans (refused-exactly _ 3 _) (simp choosing (simp reading Iff.rfl))

  -- 10 ROOM: "an output has fewer places than the answer needs"
  pub write-refuses-10 : (answer ≡ Number 10) ↔ ((sound c ≡ true) × (room < 6 + 14 * runs c))
  unfolding write_of refuses sound
  write-refuses-10 = Iff.trans (refused-exactly _ 10 _) (simp choosing (simp reading Iff.rfl))

  pub write-accepts : ((n : ℕ) × (answer ≡ Gives n)) ↔ ((sound c ≡ true) × (6 + 14 * runs c ≤ room))
  unfolding write_of sound
  write-accepts = Iff.trans (given-exactly _ _) (simp reading Iff.rfl)
