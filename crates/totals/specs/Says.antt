-- What the answer says, and how a contract names what is asked and left. "If an answer is an enum, a definition states this paper's number and
-- values for each of its cases." Assumes nothing.
use Rattle.std.specs.Prelude.{ℕ, List, [], ◌∷◌, length, ℤ}
use denote.Triple.Both.{Both}
use Rattle.std.specs.Borrow.{Bor, MutBor}
use Rattle.meaning.specs.Refusals.{Said, Gives, Number, number_of}
use Rattle.meaning.specs.Sequence.{Sequence, Source}
use Rattle.totals.specs.declared.Total.{Total}
use Rattle.totals.specs.declared.Totalled.{Totalled}
use Rattle.totals.specs.declared.Totalled.TheVariants.{All, Refused}
use Rattle.totals.specs.Windows.{totals_of, counts_of, leasts_of, greatests_of, highs_of, lows_of}

-- the total over all windows, or a refusal
abbrev pub says_totalled : Totalled → Said Total
says_totalled (All total) = Gives total
says_totalled (Refused why) = Number (number_of why)

-- of two lent lists of windows
module _ {X Y : Type 0} (from : Both (Bor (List ℕ)) X) (to : Both (Bor (List ℕ)) Y) where
  -- what is to be said, for these outputs
  abbrev pub totalling : {A B C D E : Type 0} → Source → Both (MutBor (List ℕ)) A → Both (MutBor (List ℤ)) B → Both (MutBor (List ℤ)) C → Both (MutBor (List ℤ)) D
      → Both (MutBor (List ℕ)) E → Said Total
  totalling p counts leasts greatests highs lows = totals_of p from.entry.now to.entry.now
      (length counts.entry.now ∷ length leasts.entry.now ∷ length greatests.entry.now ∷ length highs.entry.now ∷ length lows.entry.now ∷ [])

  -- what each is to hold
  module _ (q : Sequence) where
    abbrev pub counts_in : List ℕ
    counts_in = counts_of q from.entry.now to.entry.now

    abbrev pub highs_in : List ℤ
    highs_in = highs_of q from.entry.now to.entry.now

    abbrev pub lows_in : List ℕ
    lows_in = lows_of q from.entry.now to.entry.now

    module _ {Z : Type 0} (out : Both (MutBor (List ℤ)) Z) where
      abbrev pub leasts_in : List ℤ
      leasts_in = leasts_of q from.entry.now to.entry.now out.entry.now

      abbrev pub greatests_in : List ℤ
      greatests_in = greatests_of q from.entry.now to.entry.now out.entry.now
