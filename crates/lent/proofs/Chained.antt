-- Chained seeks on a scan that is lent for writing: request 13 of document 02, where the scan stands. Assumes nothing.
use mathlib.Core.Path.{◌≡◌, sym, ap, ◌∙◌}
use mathlib.Core.Bool.{true, false}
use mathlib.Core.List.{List, [], ◌∷◌, ◌++◌, map}
use lib.IntN.{ℤ}
use lib.Signed.{lt_z}
use Rattle.meaning.specs.Sequence.{Source}
use Rattle.meaning.specs.declared.Answer.{Answer}
use Rattle.meaning.proofs.Unique.{one-result}
use Rattle.loftsplice.specs.declared.scan.Scan.{Scan}
use Rattle.loftsplice.specs.Scan.{says_answer, Outcome, seek_of}
use Rattle.theorems.specs.Audit.{ascending}
use Rattle.theorems.specs.Cuts.{seek_each}
use Rattle.theorems.proofs.Unique.{answer-apart}
use Rattle.theorems.proofs.Chained.{chained, rising-seeks-leave, rising-seeks-answer}
use Rattle.lent.specs.Lending.{Lent, Run}
use Rattle.lent.proofs.Lending.{lent-run}

module _ (p : Source) (s : Scan) where
  -- A scan is lent to a seek of a first target and then to one of a second that is not below it; one that stands as it did, to the second at once: the same
  -- answer, and the two scans stand alike.
  pub lent-chained : (first second : ℤ) → lt_z second first ≡ false → (a b c : Answer) (t u : Scan)
      → Run (Lent p) s (seek_each (first ∷ second ∷ [])) (a ∷ b ∷ []) t → Run (Lent p) s (seek_each (second ∷ [])) (c ∷ []) u → (b ≡ c) × (t ≡ u)
  unfolding Run
  lent-chained x y up a b c t u g h =
      let is : seek_of p y g.0 ≡ seek_of p y s = ap (seek_of p y) g.1.1 ∙ chained p s x y up in (
        one-result says_answer answer-apart b c (g.2.1.0 ∙ ap (λ (o : Outcome). o.said) is) h.1.0,
        g.2.2 ∙ g.2.1.1 ∙ ap (λ (o : Outcome). o.scan) is ∙ sym (h.2 ∙ h.1.1),
      )

  -- Any rising sequence of seeks leaves it where its last alone would, and each answers what it would alone.
  pub lent-rising-seeks : (ks : List ℤ) (x : ℤ) → ascending (ks ++ (x ∷ [])) ≡ true → (as' : List Answer) (t : Scan)
      → Run (Lent p) s (seek_each (ks ++ (x ∷ []))) as' t → (map says_answer as' ≡ map (λ k. (seek_of p k s).said) (ks ++ (x ∷ []))) × (t ≡ (seek_of p x s).scan)
  lent-rising-seeks ks x h as' t r =
      let run = lent-run p (seek_each (ks ++ (x ∷ []))) s as' t r in
      (run.0 ∙ rising-seeks-answer p (ks ++ (x ∷ [])) s h, run.1 ∙ rising-seeks-leave p ks x s h)
