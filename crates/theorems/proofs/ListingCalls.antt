-- The batch listing: "Given exactly if", a line a refusal; what is accepted, what it gives, what a refusal leaves. Assumes nothing.
use Prim.Native.Nat.{ℕ, ◌≤◌, ◌<◌}
use mathlib.Core.Path.{◌≡◌, refl, sym}
use mathlib.Core.Bool.{Bool, true, false}
use mathlib.Core.List.{◌++◌}
use mathlib.Core.Logic.Iff
use mathlib.Core.Logic.{◌↔◌, ◌⊎◌}
use lib.ListN.{length, drop}
use Rattle.ranges.specs.Ranges.{some_of}
use Rattle.meaning.specs.declared.Refusal.{Refusal}
use Rattle.meaning.specs.declared.Refusal.TheVariants.{Window, Order, Bounds as OverBounds, Room}
use Rattle.meaning.specs.Refusals.{Gives, Number}
use Rattle.loftsplice.specs.Listing.{on_listing, list_of, Batch, values, numbers, out_after, counts_after}
use Rattle.loftsplice.proofs.ListingCases.{left-as-was, left-filled}
use Rattle.theorems.specs.Exact.{earlier, accepted, sound_source}
use Rattle.theorems.specs.Batch.{wide, all_inside, all_rise}
use Rattle.ranges.proofs.Reading.{reading, either-below}
use Rattle.theorems.proofs.Exactly.{plainly, exact, accepted-exactly, refused-is, accepted-is, OfSource, source-tests}

-- "The listing tries each test on all windows before the next test": 1, 2, 3, 8, 5, 7, 10
module _ (b : Batch) where
  abbrev tests : Refusal → Bool
  tests = on_listing b

  pub list-refuses : OfSource b.source (list_of b)
  unfolding list_of
  list-refuses = source-tests (plainly _) tests b.source refl refl refl

  -- "over 16 bounds in a list ..; over 256 windows or window lists of unequal length"
  pub list-refuses-8 : (list_of b ≡ Number 8) ↔ ((sound_source b.source ≡ true) × (wide b ≡ true))
  unfolding list_of some_of earlier sound_source
  list-refuses-8 = Iff.trans (exact (plainly _) tests OverBounds refl) (simp reading Iff.rfl)

  -- "window end above length"
  pub list-refuses-5 : (list_of b ≡ Number 5) ↔ ((sound_source b.source ≡ true) × (wide b ≡ false) × (all_inside b ≡ false))
  unfolding list_of some_of earlier sound_source
  list-refuses-5 = Iff.trans (exact (plainly _) tests Window refl) (simp reading Iff.rfl)

  -- "listing over a window that doesn't rise"
  pub list-refuses-7 : (list_of b ≡ Number 7) ↔ ((sound_source b.source ≡ true) × (wide b ≡ false) × (all_inside b ≡ true) × (all_rise b ≡ false))
  unfolding list_of some_of earlier sound_source
  list-refuses-7 = Iff.trans (exact (plainly _) tests Order refl) (simp reading Iff.rfl)

  -- "an output has fewer places than the answer needs"
  pub list-refuses-10 : (list_of b ≡ Number 10)
      ↔ ((sound_source b.source ≡ true) × (wide b ≡ false) × (all_inside b ≡ true) × (all_rise b ≡ true)
      × ((length b.out < length (values b)) ⊎ (length b.counts < length b.starts)))
  unfolding list_of some_of earlier sound_source
  list-refuses-10 = Iff.trans (exact (plainly _) tests Room refl) (simp (either-below, reading) Iff.rfl)

  pub list-accepts : (accepted (list_of b) ≡ true)
      ↔ ((sound_source b.source ≡ true) × (wide b ≡ false) × (all_inside b ≡ true) × (all_rise b ≡ true)
      × ((length (values b) ≤ length b.out) × (length b.starts ≤ length b.counts)))
  unfolding list_of sound_source
  list-accepts = Iff.trans (accepted-exactly (plainly _) tests) (simp reading Iff.rfl)

  -- what is accepted gives the number of the values, and writes them and their numbers per window over the first places
  module _ (h : accepted (list_of b) ≡ true) where
    pub list-gives : list_of b ≡ Gives (length (values b))
    unfolding list_of
    list-gives = accepted-is (plainly _) tests h

    pub out-filled : out_after b ≡ values b ++ drop (length (values b)) b.out
    out-filled = sym (left-filled (list_of b) (values b) b.out (length (values b)) (sym list-gives))

    pub counts-filled : counts_after b ≡ numbers b ++ drop (length (numbers b)) b.counts
    counts-filled = sym (left-filled (list_of b) (numbers b) b.counts (length (values b)) (sym list-gives))

  -- "A refusal returns its number; .. and every array holds what it held."
  module _ (h : accepted (list_of b) ≡ false) where
    refused : (n : ℕ) × (list_of b ≡ Number n)
    unfolding list_of
    refused = refused-is (plainly _) tests h

    pub list-keeps-out : out_after b ≡ b.out
    list-keeps-out = sym (left-as-was (list_of b) (values b) b.out refused.0 (sym refused.1))

    pub list-keeps-counts : counts_after b ≡ b.counts
    list-keeps-counts = sym (left-as-was (list_of b) (numbers b) b.counts refused.0 (sym refused.1))
