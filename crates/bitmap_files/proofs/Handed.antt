-- What is handed on: the first places of an output are what was written there, and nothing else. Assumes nothing.
use Prim.Native.Nat.{ℕ, ◌+◌, ◌*◌, ◌≤◌}
use mathlib.Core.Path.{◌≡◌, sym, ap, ◌∙◌}
use mathlib.Core.Bool.{Bool, true, false, cond}
use mathlib.Core.List.{List, [], ◌∷◌, ◌++◌}
use native.Mathlib.Omega.{arith}
use lib.IntN.{ℤ}
use lib.ListN.{length, take, drop, length-append, length-map}
use lib.Seq.{take_at}
use Rattle.meaning.specs.Refusals.{Said, Gives, Number, number_of, Trial, tried}
use Rattle.meaning.specs.Sequence.{Source}
use Rattle.meaning.specs.Column.{Column, column_of, runs}
use Rattle.meaning.proofs.Judging.{no_number, refused-before, gives-clear}
use Rattle.meaning.proofs.Tried.{clear-gives}
use Rattle.meaning.proofs.Unique.{one-result}
use Rattle.bits.specs.Bitmap.{bytes_for}
use Rattle.bits.proofs.Exact.{bitmap-long}
use Rattle.build.specs.Rule.{Run, runs_of}
use Rattle.build.proofs.Columns.{runs-are}
use Rattle.codec.specs.Record.{record_of, write_of}
use Rattle.codec.proofs.Writing.{record-length}
use Rattle.importing.specs.Import.{present_in, imported_column, Imports, import_tests, import_of}
use Rattle.exporting.specs.Export.{export_tests, export_of, exported_bytes}
use Rattle.record.specs.declared.Written.{Written}
use Rattle.record.specs.Says.{says_written}
use Rattle.record.proofs.Unique.{written_apart}
use Rattle.bitmap_files.specs.Stored.{stored_of}

-- ---- so many places of an output

module _ {A : Type 0} (new old out : List A) (n : ℕ) (o : out ≡ new ++ drop (length new) old) (e : n ≡ length new) where
  pub front : take n out ≡ new
  front = rw o (take_at new (drop (length new) old) n (sym e))

  pub within : n ≤ length out
  within = omega (arith, e, ap length o ∙ length-append new (drop (length new) old))

-- ---- behind tests

-- what is given behind them is given without them
passed : {A : Type 0} (said : Said A) (a : A) (ts : List Trial) → tried Number ts said ≡ Gives a → said ≡ Gives a
unfolding tried
passed said a [] h = h
passed said a (t ∷ ts) h = split t.holds (passed said a ts) h
  where
    split : (q : Bool) → (tried Number ts said ≡ Gives a → said ≡ Gives a) → cond q (Number (number_of t.why)) (tried Number ts said) ≡ Gives a → said ≡ Gives a
    split true f e = no_number (sym e)
    split false f e = f e

given-same : {A : Type 0} {a b : A} → Gives a ≡ Gives b → a ≡ b
given-same e = cc

-- ---- the record of a bitmap

-- "the bytes written" are those of the record
written-size : (c : Column) (room n : ℕ) → write_of c room ≡ Gives n → n ≡ length (record_of c)
unfolding write_of
written-size c room n h = given-same (sym (passed (Gives (6 + 14 * runs c)) n _ h)) ∙ sym (record-length c)

module _ (bytes : List ℕ) (count : ℕ) where
  abbrev tests : List Trial
  tests = import_tests bytes count 4096 4096 4096

  abbrev col : Column
  col = imported_column bytes count

  pub stored-size : (room n : ℕ) → Gives n ≡ stored_of bytes count room → n ≡ length (record_of (imported_column bytes count))
  unfolding stored_of
  stored-size room n h = written-size col room n (passed (write_of col room) n tests (sym h))

  -- refused as the import is
  pub refused-so : (room n : ℕ) → Number n ≡ import_of bytes count 4096 4096 4096 → Number n ≡ stored_of bytes count room
  unfolding stored_of import_of
  refused-so room n e = refused-before Number (write_of col room) _ [] tests n e

  module _ (i : Imports) (e : Gives i ≡ import_of bytes count 4096 4096 4096) where
    pub written-so : (room : ℕ) → write_of (imported_column bytes count) room ≡ stored_of bytes count room
    unfolding stored_of import_of
    written-so room = sym (clear-gives Number tests (write_of col room) (gives-clear _ i tests (sym e)))

    all : i.runs ≡ length (runs_of (present_in bytes count))
    unfolding import_of
    all = ap (λ (x : Imports). x.runs) (given-same (sym (passed _ i tests (sym e))))

    pub starts-all : i.runs ≡ length (imported_column bytes count).starts
    starts-all = all ∙ sym (length-map (runs_of (present_in bytes count)) (λ (r : Run). r.start))

    pub ends-all : i.runs ≡ length (imported_column bytes count).ends
    ends-all = all ∙ sym (runs-are (runs_of (present_in bytes count)))

    pub steps_all : i.runs ≡ length (imported_column bytes count).steps
    steps_all = all ∙ sym (length-map (runs_of (present_in bytes count)) (λ (r : Run). r.step))

    -- the parts that are handed on are the column's
    pub column-is : (s₀ s : List ℤ) (e₀ f : List ℕ) (t₀ t : List ℤ)
        → s ≡ (imported_column bytes count).starts ++ drop (length (imported_column bytes count).starts) s₀
        → f ≡ (imported_column bytes count).ends ++ drop (length (imported_column bytes count).ends) e₀
        → t ≡ (imported_column bytes count).steps ++ drop (length (imported_column bytes count).steps) t₀
        → column_of (take i.runs s) (take i.runs f) (take i.runs t) ≡ imported_column bytes count
    column-is s₀ s e₀ f t₀ t a b c =
        rw (front col.starts s₀ s i.runs a starts-all, front col.ends e₀ f i.runs b ends-all, front col.steps t₀ t i.runs c steps_all)

-- ---- the bitmap of a column

-- "the bytes written" are those of the bitmap
pub exported-size : (p : Source) (count room n : ℕ) → Gives n ≡ export_of p count room → n ≡ length (exported_bytes p count)
unfolding export_of
exported-size p count room n h = given-same (sym (passed (Gives (bytes_for count)) n (export_tests p count room) (sym h))) ∙ sym (bitmap-long _ (bytes_for count) 0)

-- ---- one result

-- of `stored`; the output's content is promised as an equation
pub stored_one : (bytes : List ℕ) (count places : ℕ) (x y : Written) → says_written x ≡ stored_of bytes count places → says_written y ≡ stored_of bytes count places → x ≡ y
stored_one bytes count places = one-result says_written written_apart
