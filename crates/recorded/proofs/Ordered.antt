-- What a seek over the whole column tells of its order. Assumes nothing.
use Prim.Native.Nat.{ℕ}
use mathlib.Core.Path.{◌≡◌, refl, sym, ap, ◌∙◌}
use mathlib.Core.Bool.{Bool, true, false, cond, not}
use mathlib.Core.Option.{Option, some, none}
use native.Mathlib.Omega.{arith}
use borrow.Author.Tests.{le-ltb}
use lib.Dec.{ltb}
use lib.IntN.{ℤ}
use Rattle.ranges.proofs.Bools.{either}
use Rattle.meaning.specs.declared.Refusal.{Refusal}
use Rattle.meaning.specs.Refusals.{Gives, Number, tried}
use Rattle.meaning.specs.Sequence.{Sequence, Source, rises, first_not_below}
use Rattle.meaning.proofs.Judging.{no_number, Passes, passes-first}
use Rattle.loftsplice.specs.declared.scan.Scan.{Scan}
use Rattle.loftsplice.specs.declared.scan.State.TheVariants.{Fresh, At, Ended}
use Rattle.loftsplice.specs.declared.scan.Made.{Made}
use Rattle.loftsplice.specs.declared.scan.Made.TheVariants.{Ready, Refused as MadeRefused}
use Rattle.loftsplice.specs.declared.scan.Moved.{Moved}
use Rattle.loftsplice.specs.Scan.{Outcome, outcome_of, says_answer, says_made, fresh, put, go_to, seek_from, bad_scan, refuse, new_of, seek_of}

-- where a seek goes it gives something
gone : (q : Sequence) (s : Scan) (i : ℕ) → (a : Option ℤ) × ((go_to q s i).said ≡ Gives a)
unfolding go_to
gone q s i = go (ltb i s.end)
  where
    go : (t : Bool) → (a : Option ℤ) × ((cond {A = Outcome} t (record { scan = put q s (At i); said = Gives (some (q.at i)) }) (record { scan = put q s Ended; said = Gives none })).said ≡ Gives a)
    go true = (some (q.at i), refl)
    go false = (none, refl)

gives_same : {A : Type 0} {a b : A} → Gives a ≡ Gives b → a ≡ b
gives_same e = cc

module _ (p : Source) (ok : Passes p) where
  abbrev q : Sequence
  q = p.sequence

  abbrev whole : Scan
  whole = fresh 0 p.sequence.size

  -- a source that passes has a scan: the whole of it
  new_is : new_of p ≡ Gives (fresh 0 p.sequence.size)
  unfolding new_of tried
  new_is = sym (passes-first p Number (Gives (fresh 0 p.sequence.size)) ok)

  pub new-not {ℓ} : {P : Type ℓ} (m : Made) (why : Refusal) → says_made m ≡ new_of p → m ≡ MadeRefused why → P
  new-not m why h e = no_number (sym new_is ∙ sym h ∙ ap says_made e)

  new-whole : (m : Made) (s : Scan) → says_made m ≡ new_of p → m ≡ Ready s → s ≡ whole
  new-whole m s h e = gives_same (sym (ap says_made e) ∙ h ∙ new_is)

  -- a seek of it is refused exactly where it does not rise
  fine : bad_scan q whole ≡ false
  unfolding bad_scan
  fine = rw (le-ltb p.sequence.size p.sequence.size (omega arith))

  sought : (target : ℤ) → cond (not (rises q 0 p.sequence.size)) (refuse whole 7) (seek_from q target whole Fresh) ≡ seek_of p target whole
  unfolding seek_of tried
  sought target =
      ap (λ (t : Bool). cond t (refuse whole 6) (cond (not (rises q 0 p.sequence.size)) (refuse whole 7) (seek_from q target whole Fresh))) (sym fine)
      ∙ passes-first p (refuse whole) (cond (bad_scan q whole) (refuse whole 6) (cond (not (rises q 0 p.sequence.size)) (refuse whole 7) (seek_from q target whole Fresh))) ok

  module _ (made : Made) (s : Scan) (h : says_made made ≡ new_of p) (e : made ≡ Ready s) (target : ℤ) (moved : Moved) (f : outcome_of moved ≡ seek_of p target s) where
    said-is : says_answer moved.answer ≡ (cond (not (rises q 0 p.sequence.size)) (refuse whole 7) (seek_from q target whole Fresh)).said
    said-is = ap (λ (o : Outcome). o.said) (f ∙ ap (seek_of p target) (new-whole made s h e) ∙ sym (sought target))

    pub told-flat : (n : ℕ) → says_answer moved.answer ≡ Number n → false ≡ rises q 0 p.sequence.size
    unfolding seek_from
    told-flat n g = either (rises q 0 p.sequence.size)
        (λ t. let w = gone q whole (first_not_below q target 0 p.sequence.size) in
        no_number (sym w.1 ∙ sym (said-is ∙ ap (λ (b : Bool). (cond {A = Outcome} (not b) (refuse whole 7) (seek_from q target whole Fresh)).said) t) ∙ g))
        (λ t. sym t)

    pub told-up : (a : Option ℤ) → says_answer moved.answer ≡ Gives a → true ≡ rises q 0 p.sequence.size
    told-up a g = either (rises q 0 p.sequence.size) (λ t. sym t)
        (λ t. no_number (sym g ∙ said-is ∙ ap (λ (b : Bool). (cond {A = Outcome} (not b) (refuse whole 7) (seek_from q target whole Fresh)).said) t))
