-- THE AUDITOR'S THEOREM, of the list that a presence column was built from: a record number is answered with itself exactly if it was handed over.
-- Assumes nothing.
use mathlib.Core.Path.{◌≡◌}
use mathlib.Core.Bool.{true, false}
use mathlib.Core.List.{List}
use mathlib.Core.Option.{some}
use mathlib.Core.Logic.Iff
use mathlib.Core.Logic.{◌↔◌}
use lib.ListN.{length}
use lib.IntN.{ℤ}
use Rattle.ranges.proofs.Bools.{In}
use Rattle.keys.specs.Widths.{fits_in, half64}
use Rattle.meaning.specs.Refusals.{Gives}
use Rattle.meaning.specs.Sequence.{rises}
use Rattle.meaning.specs.Column.{Column, size_of, sound, source_of}
use Rattle.meaning.proofs.Judging.{passes-sound}
use Rattle.loftsplice.specs.Scan.{fresh, seek_of}
use Rattle.build.specs.Rule.{built_from, too_much}
use Rattle.build.specs.Pieces.{listed}
use Rattle.build.proofs.Again.{built-passes}
use Rattle.build.proofs.Held.{built-holds, built-rises}
use Rattle.theorems.specs.Audit.{ascending, seeks, filled}
use Rattle.theorems.proofs.Audit.{column-found-exactly-if, column-filled-exactly-if}

-- a list of i64s that rises, and that `build` does not refuse 1
module _ (xs : List ℤ) (fits : (v : ℤ) → In v xs → fits_in half64 v ≡ true) (few : too_much xs ≡ false) (up : rises (listed xs) 0 (length xs) ≡ true) where
  abbrev c : Column
  c = built_from xs

  is-sound : sound c ≡ true
  is-sound = passes-sound c (built-passes xs fits few)

  pub list-found-exactly-if : (k : ℤ) → ((seek_of (source_of c) k (fresh 0 (size_of c))).said ≡ Gives (some k)) ↔ In k xs
  list-found-exactly-if k = Iff.trans (column-found-exactly-if c is-sound (built-rises xs fits up) k) (built-holds xs fits k)

  pub list-filled-exactly-if : (ks : List ℤ) → ascending ks ≡ true → (k : ℤ)
      → In k (filled ks (seeks (source_of c) (fresh 0 (size_of c)) ks)) ↔ (In k ks × (In k xs → ⊥))
  list-filled-exactly-if ks h k =
      let w = column-filled-exactly-if c is-sound (built-rises xs fits up) ks h k in
      let e = built-holds xs fits k in
      (λ i. ((w.0 i).0, λ j. (w.0 i).1 (e.1 j)), λ p. w.1 (p.0, λ j. p.1 (e.0 j)))
