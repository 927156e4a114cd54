-- CHAINED SEEKS: a first target and then a second that is not below it, and the second at once; rising seeks; through a filter. Assumes nothing.
--
-- "And from any scan on a rising window, seeking a first target and then a second that is not below it leaves the same answer and scan as seeking the second
-- at once."
use Prim.Native.Nat.{ℕ, ◌≤◌, ◌<◌}
use mathlib.Core.Path.{◌≡◌, refl, sym, ap, ◌∙◌}
use mathlib.Core.Bool.{true, false, not}
use mathlib.Core.List.{List, [], ◌∷◌, ◌++◌, map}
use mathlib.Core.Logic.{⊎_elim}
use native.Mathlib.Omega.{arith}
use borrow.Author.Tests.{not-false}
use lib.IntN.{ℤ}
use lib.Signed.{lt_z}
use Rattle.ranges.proofs.Bools.{either, and_left, and_right, not-no, same_after}
use Rattle.ranges.proofs.Order.{lt-le, le_trans, lt-self}
use Rattle.ranges.proofs.Spans.{first-known, first_to, first-unique, first-now, lt-or-ge}
use Rattle.meaning.specs.Sequence.{Sequence, Source, rises, first_not_below}
use Rattle.loftsplice.specs.declared.scan.Move.TheVariants.{Seek}
use Rattle.loftsplice.specs.declared.scan.Moved.{Moved}
use Rattle.loftsplice.specs.declared.scan.State.{State}
use Rattle.loftsplice.specs.declared.scan.Scan.{Scan}
use Rattle.loftsplice.specs.Scan.{Outcome, outcome_of, standing, go_to, seek_from, bad_scan, seek_of, says_all, left_by}
use Rattle.loftsplice.proofs.ScanCases.{seek-goes}
use Rattle.theorems.specs.Exact.{accepted, sound_source}
use Rattle.theorems.specs.Audit.{ascending_from, ascending, seeks}
use Rattle.theorems.specs.Cuts.{seek_then, seek_each}
use Rattle.theorems.proofs.ScanCalls.{seek-accepts, seek-does, seek-keeps}
use Rattle.theorems.proofs.Moves.{reached, over, to_inside, to_end, unmoved, restricted-bad, move-restricted}
use Rattle.theorems.proofs.Unique.{seek-one}

-- ---- the definitions: here the window need not rise

module _ (q : Sequence) (x y : ℤ) (up : lt_z y x ≡ false) where
  -- what the first search passes is below x, and so below y
  first-again : (a e : ℕ) → first_not_below q y (first_not_below q x a e) e ≡ first_not_below q y a e
  first-again a e = ⊎_elim inside outside (lt-or-ge a e)
    where
      inside : a < e → first_not_below q y (first_not_below q x a e) e ≡ first_not_below q y a e
      inside l =
          let j : ℕ = first_not_below q x a e in
          let g = first-known (λ i. not (lt_z (q.at i) x)) a e in
          let h = first-known (λ i. not (lt_z (q.at i) y)) j e in
          sym (first-unique (λ i. not (lt_z (q.at i) y)) a e (first_not_below q y j e) (omega (arith, g.from, h.from))
          (first_to (λ i. not (lt_z (q.at i) y)) j e (first_to (λ i. not (lt_z (q.at i) x)) a e (omega arith)))
          (λ k m n. ⊎_elim
          (λ (o : k < j). ap not (lt-le (q.at k) x y (not-false (lt_z (q.at k) x) (g.before k m o)) up))
          (λ (o : j ≤ k). h.before k o n)
          (lt-or-ge k j)) h.holds)

      outside : e ≤ a → first_not_below q y (first_not_below q x a e) e ≡ first_not_below q y a e
      outside l = ap (λ j. first_not_below q y j e) (first-now (λ i. not (lt_z (q.at i) x)) a e (λ m. absurd (omega arith)))

  pub seek-again : (s : Scan) (t : State) → seek_from q y (seek_from q x s t).scan (seek_from q x s t).scan.state ≡ seek_from q y s t
  unfolding seek_from go_to
  seek-again s t = ⊎_elim inside outside (lt-or-ge j s.end)
    where
      j : ℕ
      j = first_not_below q x (standing s t) s.end

      lands : (o : Outcome) → go_to q s j ≡ o → seek_from q y (seek_from q x s t).scan (seek_from q x s t).scan.state ≡ seek_from q y o.scan o.scan.state
      lands o e = ap (λ (m : Outcome). seek_from q y m.scan m.scan.state) (sym (seek-goes q s x t) ∙ e)

      inside : j < s.end → seek_from q y (seek_from q x s t).scan (seek_from q x s t).scan.state ≡ seek_from q y s t
      inside l = lands (reached q s j) (to_inside q s j l) ∙ ap (go_to q s) (first-again (standing s t) s.end) ∙ seek-goes q s y t

      outside : s.end ≤ j → seek_from q y (seek_from q x s t).scan (seek_from q x s t).scan.state ≡ seek_from q y s t
      outside l =
          lands (over q s) (to_end q s j l)
          ∙ sym (to_end q s (first_not_below q y (standing s t) s.end)
          (omega (arith, l, first-again (standing s t) s.end, (first-known (λ i. not (lt_z (q.at i) y)) j s.end).from)))
          ∙ seek-goes q s y t

-- ---- THE PROMISE OF `seek`

module _ (p : Source) (s : Scan) where
  abbrev q : Sequence
  q = p.sequence

  -- a seek leaves a scan of the same window that the next seek takes
  pub sought-good : (x : ℤ) → bad_scan q s ≡ false → rises q s.start s.end ≡ true
      → (bad_scan q (seek_from q x s s.state).scan ≡ false) × (rises q (seek_from q x s s.state).scan.start (seek_from q x s s.state).scan.end ≡ true)
  sought-good x good up =
      let r = move-restricted q s (Seek x) (unmoved q s good) in
      (restricted-bad q (seek_from q x s s.state).scan r ∙ sym (restricted-bad q s (unmoved q s good)) ∙ good, rw (r.same_start, r.same_end) up)

  -- THE FACT. It holds of any source and any scan: where the first seek is refused, and so leaves the scan, the second is refused as it is at once; an ended
  -- scan stays ended.
  pub chained : (first second : ℤ) → lt_z second first ≡ false → seek_then p first second s ≡ seek_of p second s
  chained x y up =
      either (accepted (seek_of p x s).said) (λ t. moved t ((seek-accepts p s x).0 t)) (λ t. ap (seek_of p y) (seek-keeps p s x t))
    where
      moved : accepted (seek_of p x s).said ≡ true → (sound_source p ≡ true) × (bad_scan q s ≡ false) × (rises q s.start s.end ≡ true)
          → seek_then p x y s ≡ seek_of p y s
      moved t f =
          let m : Scan = (seek_from q x s s.state).scan in
          let g = sought-good x f.1 f.2 in
          ap (λ (o : Outcome). seek_of p y o.scan) (seek-does p s x t)
          ∙ seek-does p m y ((seek-accepts p m y).1 (f.0, g.0, g.1))
          ∙ seek-again q x y up s s.state
          ∙ sym (seek-does p s y ((seek-accepts p s y).1 f))

  -- so results that meet the promises are equal: n of the second seek after m of the first, o of the second at once
  pub chained-result : (first second : ℤ) → lt_z second first ≡ false
      → (m n o : Moved) → outcome_of m ≡ seek_of p first s → outcome_of n ≡ seek_of p second m.scan → outcome_of o ≡ seek_of p second s → n ≡ o
  chained-result x y up m n o em en eo =
      seek-one p s y n o (en ∙ ap (λ (w : Outcome). seek_of p y w.scan) em ∙ chained x y up) eo

-- ---- any rising sequence of seeks

ascending-rest : (k : ℤ) (ks : List ℤ) → ascending_from k ks ≡ true → ascending ks ≡ true
unfolding ascending_from
ascending-rest k [] h = refl
ascending-rest k (x ∷ ks) h = and_right (not (lt_z x k)) (ascending_from x ks) h

-- the last of them is not below the first
last_up : (k : ℤ) (ks : List ℤ) (x : ℤ) → ascending_from k (ks ++ (x ∷ [])) ≡ true → lt_z x k ≡ false
unfolding ascending_from
last_up k [] x h = not-no (lt_z x k) (and_left (not (lt_z x k)) true h)
last_up k (y ∷ ks) x h =
    le_trans k y x (not-no (lt_z y k) (and_left (not (lt_z y k)) (ascending_from y (ks ++ (x ∷ []))) h))
    (last_up y ks x (and_right (not (lt_z y k)) (ascending_from y (ks ++ (x ∷ []))) h))

module _ (p : Source) where
  -- It leaves the scan where its last alone would,
  pub rising-seeks-leave : (ks : List ℤ) (x : ℤ) (s : Scan) → ascending (ks ++ (x ∷ [])) ≡ true → left_by p s (seek_each (ks ++ (x ∷ []))) ≡ (seek_of p x s).scan
  unfolding left_by
  rising-seeks-leave [] x s h = refl
  rising-seeks-leave (k ∷ ks) x s h =
      rising-seeks-leave ks x (seek_of p k s).scan (ascending-rest k (ks ++ (x ∷ [])) h)
      ∙ ap (λ (o : Outcome). o.scan) (chained p s k x (last_up k ks x h))

  -- and each answers what it would alone.
  after_first : (s : Scan) (x y : ℤ) → lt_z y x ≡ false → (ks : List ℤ) → ascending_from y ks ≡ true
      → map (λ k. (seek_of p k (seek_of p x s).scan).said) ks ≡ map (λ k. (seek_of p k s).said) ks
  unfolding ascending_from
  after_first s x y up [] h = refl
  after_first s x y up (k ∷ ks) h =
      let on : lt_z k x ≡ false = le_trans x y k up (not-no (lt_z k y) (and_left (not (lt_z k y)) (ascending_from k ks) h)) in
      rw (chained p s x k on) (same_after (seek_of p k s).said (after_first s x k on ks (and_right (not (lt_z k y)) (ascending_from k ks) h)))

  pub rising-seeks-answer : (ks : List ℤ) (s : Scan) → ascending ks ≡ true → seeks p s ks ≡ map (λ k. (seek_of p k s).said) ks
  unfolding says_all
  rising-seeks-answer [] s h = refl
  rising-seeks-answer (k ∷ ks) s h =
      same_after (seek_of p k s).said
      (rising-seeks-answer ks (seek_of p k s).scan (ascending-rest k ks h) ∙ after_first s k k (lt-self k) ks h)
