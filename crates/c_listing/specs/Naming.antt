-- How a contract names what a listing is lent, and what it says and leaves there: references, read at the call's entry. Assumes nothing.
use Rattle.std.specs.Prelude.{ℕ, List, ℤ}
use denote.Triple.Both.{Both}
use Rattle.std.specs.Borrow.{Bor, MutBor}
use Rattle.meaning.specs.Refusals.{Said}
use Rattle.meaning.specs.Sequence.{Source}
use Rattle.meaning.specs.Outputs.{after}
use Rattle.loftsplice.specs.Listing.{values, numbers}
use Rattle.c_listing.specs.Listing.{Request, batch_of, ask_list}

module _ {A B C D E F : Type 0} where
  -- the windows, the mode and the bounds
  abbrev pub request : Both (Bor (List ℕ)) A → Both (Bor (List ℕ)) B → ℕ → Both (Bor (List ℤ)) C → Both (Bor (List ℕ)) D → Both (Bor (List ℤ)) E → Both (Bor (List ℕ)) F → Request
  request from to mode lows low_kinds ups up_kinds =
      record { from = from.entry.now; to = to.entry.now; mode = mode; lows = lows.entry.now; low_kinds = low_kinds.entry.now; ups = ups.entry.now; up_kinds = up_kinds.entry.now }

module _ {X Y : Type 0} (p : Source) (k : Request) (out : Both (MutBor (List ℤ)) X) (counts : Both (MutBor (List ℕ)) Y) where
  -- what is said
  abbrev pub list_says : Said ℕ
  list_says = ask_list k p out.entry.now counts.entry.now

  -- what is left in the output, and in the counts
  abbrev pub values_left : List ℤ
  values_left = after list_says (values (batch_of k p out.entry.now counts.entry.now)) out.entry.now

  abbrev pub counts_left : List ℕ
  counts_left = after list_says (numbers (batch_of k p out.entry.now counts.entry.now)) counts.entry.now
