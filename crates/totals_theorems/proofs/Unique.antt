-- "the promise leaves one possible result .., and a proof says that two results meeting it are equal": the totals. Assumes nothing.
use Prim.Native.Nat.{ℕ}
use mathlib.Core.Path.{◌≡◌, refl, sym, ap, ◌∙◌}
use mathlib.Core.List.{List, [], ◌∷◌}
use lib.ListN.{length}
use lib.IntN.{ℤ}
use Rattle.meaning.specs.Outputs.{after}
use Rattle.meaning.specs.Sequence.{Source}
use Rattle.meaning.proofs.Unique.{Injective, one-result, undone, refusal_is, answering}
use Rattle.totals.specs.declared.Totalled.{Totalled}
use Rattle.totals.specs.declared.Totalled.TheVariants.{All, Refused}
use Rattle.totals.specs.Windows.{totals_of, counts_of, leasts_of, greatests_of, highs_of, lows_of}
use Rattle.totals.specs.Says.{says_totalled}

pub totalled-apart : Injective says_totalled
totalled-apart = undone says_totalled (answering All Refused) (elim [ All t ↦ refl | Refused w ↦ ap Refused (refusal_is w) ])

-- the five outputs
pub record Outputs : Type 0 where
  pub counts : List ℕ
  pub leasts : List ℤ
  pub greatests : List ℤ
  pub highs : List ℤ
  pub lows : List ℕ

-- what `totals` promises of its answer and of what the outputs hold then
pub record Meets (p : Source) (ss es : List ℕ) (old : Outputs) (r : Totalled) (new : Outputs) : Type 0 where
  pub said : says_totalled r ≡ totals_of p ss es (length old.counts ∷ length old.leasts ∷ length old.greatests ∷ length old.highs ∷ length old.lows ∷ [])
  pub counts-are : new.counts ≡ after (says_totalled r) (counts_of p.sequence ss es) old.counts
  pub leasts-are : new.leasts ≡ after (says_totalled r) (leasts_of p.sequence ss es old.leasts) old.leasts
  pub greatests-are : new.greatests ≡ after (says_totalled r) (greatests_of p.sequence ss es old.greatests) old.greatests
  pub highs-are : new.highs ≡ after (says_totalled r) (highs_of p.sequence ss es) old.highs
  pub lows-are : new.lows ≡ after (says_totalled r) (lows_of p.sequence ss es) old.lows

pub totals-one : {p : Source} {ss es : List ℕ} {old : Outputs} (x y : Totalled) (a b : Outputs) → Meets p ss es old x a → Meets p ss es old y b
    → (x ≡ y) × (a.counts ≡ b.counts) × (a.leasts ≡ b.leasts) × (a.greatests ≡ b.greatests) × (a.highs ≡ b.highs) × (a.lows ≡ b.lows)
totals-one x y a b m n =
    let e : x ≡ y = one-result says_totalled totalled-apart x y m.said n.said in (
      e,
      m.counts-are ∙ rw e (sym n.counts-are),
      m.leasts-are ∙ rw e (sym n.leasts-are),
      m.greatests-are ∙ rw e (sym n.greatests-are),
      m.highs-are ∙ rw e (sym n.highs-are),
      m.lows-are ∙ rw e (sym n.lows-are),
    )
