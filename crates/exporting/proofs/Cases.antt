-- The refusals of an export, one after the other. Assumes nothing.
use Prim.Native.Nat.{ℕ, ◌<◌, ◌≤◌}
use mathlib.Core.Path.{◌≡◌, ◌∙◌}
use mathlib.Core.Bool.{Bool}
use mathlib.Core.List.{List, [], ◌∷◌, ◌++◌}
use borrow.Author.Tests.{lt-ltb, le-ltb}
use lib.Dec.{ltb}
use lib.ListN.{length, drop}
use Rattle.meaning.specs.declared.Refusal.{Refusal}
use Rattle.meaning.specs.declared.Refusal.TheVariants.{Room}
use Rattle.meaning.specs.Refusals.{Said, Gives, Number, number_of, Trial, tried}
use Rattle.meaning.specs.Sequence.{Source}
use Rattle.meaning.proofs.Judging.{clear-tried}
use Rattle.checked.specs.declared.Checked.{Checked}
use Rattle.checked.specs.declared.Checked.TheVariants.{Fine, Refused}
use Rattle.checked.specs.Says.{says_checked}
use Rattle.bits.specs.Bitmap.{bytes_for, bitmap_of}
use Rattle.bits.proofs.Exact.{bitmap-long}
use Rattle.recorded.specs.Records.{record_tests, records_of}
use Rattle.recorded.proofs.Cases.{records-refused, records-clear}
use Rattle.exporting.specs.Export.{export_of}

-- ---- what is left of the output

pub left_is : (p : ℕ → Bool) (n : ℕ) (new old : List ℕ) → new ≡ bitmap_of p 0 n → new ++ drop n old ≡ bitmap_of p 0 n ++ drop (length (bitmap_of p 0 n)) old
left_is p n new old e = rw (e, bitmap-long p n 0)

-- ---- the last test

-- what is tried where all tests before it have passed
abbrev last_test : ℕ → ℕ → List Trial
last_test count room = record { why = Room; holds = ltb room (bytes_for count) } ∷ []

abbrev pub tried_last : ℕ → ℕ → Said ℕ
tried_last count room = tried Number (last_test count room) (Gives (bytes_for count))

module _ (count room : ℕ) where
  pub says-room : room < bytes_for count → Number 10 ≡ tried_last count room
  unfolding tried
  says-room l = rw (lt-ltb room (bytes_for count) l)

  pub says-bytes : bytes_for count ≤ room → Gives (bytes_for count) ≡ tried_last count room
  unfolding tried
  says-bytes l = rw (le-ltb room (bytes_for count) l)

-- ---- before it

module _ (p : Source) (count room : ℕ) where
  pub says-count : 524288 < count → Number 14 ≡ export_of p count room
  unfolding export_of tried
  says-count l = rw (lt-ltb 524288 count l)

  module _ (l : count ≤ 524288) (r : Checked) (h : says_checked r ≡ records_of p count) where
    pub says-refused : (why : Refusal) → r ≡ Refused why → Number (number_of why) ≡ export_of p count room
    unfolding export_of tried
    says-refused why e = rw (le-ltb 524288 count l) (records-refused p count r why Number (last_test count room) (Gives (bytes_for count)) h e)

    pub says-fit : (x : Said ℕ) → r ≡ Fine → x ≡ tried_last count room → x ≡ export_of p count room
    unfolding export_of tried
    says-fit x e t = rw (le-ltb 524288 count l) (t ∙ clear-tried Number (record_tests p count) (last_test count room) (Gives (bytes_for count)) (records-clear p count r h e))
