-- Numbers that are sought in rising order: each is answered as if it were sought alone, and with itself exactly if it is there. Assumes nothing.
use Prim.Native.Nat.{ℕ, zero, suc, ◌≤◌, ◌<◌}
use mathlib.Core.Path.{◌≡◌, refl, sym, ap, ◌∙◌}
use mathlib.Core.Bool.{Bool, true, false, not, ◌&&◌, false≢true}
use mathlib.Core.List.{List, [], ◌∷◌, map}
use mathlib.Core.Option.{Option, some, none}
use mathlib.Core.Logic.{◌⊎◌, inl, inr, ⊎_elim, ◌↔◌}
use native.Mathlib.Omega.{arith}
use native.Mathlib.Nat.{le_refl}
use borrow.Author.Tests.{lt-ltb, le-ltb, not-false}
use lib.ListN.{length, get_or}
use lib.IntN.{ℤ, pos}
use lib.Signed.{lt_z}
use Rattle.ranges.specs.Ranges.{first_from}
use Rattle.ranges.proofs.Bools.{either, clash, and_left, and_right, and_both, and-false, not_yes, not-no, In, same_after}
use Rattle.ranges.proofs.Order.{lt-self, lt-le}
use Rattle.ranges.proofs.Spans.{First, first-known, first-is, first-none, lt-or-ge}
use Rattle.meaning.specs.Refusals.{Said, Gives, Number}
use Rattle.meaning.specs.Sequence.{Sequence, rises}
use Rattle.meaning.proofs.Judging.{none-given}
use Rattle.loftsplice.specs.declared.scan.Move.TheVariants.{Next, Seek}
use Rattle.loftsplice.specs.Lead.{found}
use Rattle.theorems.specs.Demand3.{earliest, answer_at, expected_from}
use Rattle.theorems.specs.Audit.{Holds, ascending_from, ascending, filled}
use Rattle.theorems.proofs.Bounds.{equal_is}
use Rattle.theorems.proofs.Windows.{climbs}

module _ (q : Sequence) (s e : ℕ) (ok : ℤ → Bool) where
  -- an element that a seek of k may give
  abbrev wanted : ℤ → ℕ → Bool
  wanted k i = ok (q.at i) && not (lt_z (q.at i) k)

  -- what k is answered where it is sought alone
  abbrev pub alone : ℤ → Said (Option ℤ)
  alone k = answer_at q e (first_from (wanted k) s e)

  same_answer : (k : ℤ) (j : ℕ) → First (wanted k) s e j → answer_at q e j ≡ alone k
  unfolding answer_at
  same_answer k j g =
      ⊎_elim (λ (l : j < e). ap (answer_at q e) (sym (first-is (wanted k) s e j g.from l g.before (g.holds l))))
      (λ (l : e ≤ j). rw (le-ltb j e l, le-ltb (first_from (wanted k) s e) e (first-none (wanted k) s e (λ i a b. g.before i a (omega arith)))))
      (lt-or-ge j e)

  -- nothing before index b is wanted
  abbrev Clear : ℕ → ℤ → Type 0
  Clear b k = (i : ℕ) → s ≤ i → i < b → wanted k i ≡ false

  clear-on : (b : ℕ) (k x : ℤ) → lt_z x k ≡ false → Clear b k → Clear b x
  clear-on b k x h c i l m = by (ok (q.at i)) (c i l m)
    where
      by : (t : Bool) → (t && not (lt_z (q.at i) k)) ≡ false → (t && not (lt_z (q.at i) x)) ≡ false
      by false g = refl
      by true g = rw (lt-le (q.at i) k x (not-false (lt_z (q.at i) k) g) h)

  seeks-from : (ks : List ℤ) (a b : ℕ) (k : ℤ) → s ≤ b → Clear b k → ascending_from k ks ≡ true → expected_from q e ok a b (map Seek ks) ≡ map alone ks
  unfolding expected_from earliest ascending_from
  seeks-from [] a b x l c h = refl
  seeks-from (k ∷ ks) a b x l c h =
      let j : ℕ = first_from (wanted k) b e in
      let g : First (wanted k) s e j = from_start j (first-known (wanted k) b e) in
      rw (same_answer k j g) (same_after (alone k) (seeks-from ks (suc j) j k g.from g.before (and_right (not (lt_z k x)) (ascending_from k ks) h)))
    where
      clear : Clear b k
      clear = clear-on b x k (not-no (lt_z k x) (and_left (not (lt_z k x)) (ascending_from k ks) h)) c

      from_start : (j : ℕ) → First (wanted k) b e j → First (wanted k) s e j
      from_start j g = record {
        from = omega (arith, g.from);
        before = λ i y z. ⊎_elim (λ (w : i < b). clear i y w) (λ (w : b ≤ i). g.before i w z) (lt-or-ge i b);
        holds = g.holds;
      }

  -- sought first
  pub seeks-alone : (ks : List ℤ) → ascending ks ≡ true → expected_from q e ok s s (map Seek ks) ≡ map alone ks
  unfolding ascending_from
  seeks-alone [] h = seeks-from [] s s (pos 0) (le_refl s) (λ i l m. absurd (omega arith)) refl
  seeks-alone (k ∷ ks) h = seeks-from (k ∷ ks) s s k (le_refl s) (λ i l m. absurd (omega arith)) (rw (lt-self k) h)

  -- sought after a next: nothing before what it gave meets the test
  pub seeks-after-next : (ks : List ℤ) → ascending ks ≡ true
      → expected_from q e ok s s (Next ∷ map Seek ks) ≡ (answer_at q e (first_from (λ i. ok (q.at i)) s e) ∷ map alone ks)
  unfolding expected_from earliest ascending_from
  seeks-after-next ks h = same_after (answer_at q e j) (by ks h)
    where
      j : ℕ
      j = first_from (λ i. ok (q.at i)) s e

      g : First (λ i. ok (q.at i)) s e j
      g = first-known (λ i. ok (q.at i)) s e

      by : (ks : List ℤ) → ascending ks ≡ true → expected_from q e ok (suc j) j (map Seek ks) ≡ map alone ks
      by [] h = refl
      by (k ∷ ks) h = seeks-from (k ∷ ks) (suc j) j k g.from (λ i l m. rw (g.before i l m)) (rw (lt-self k) h)

  -- in a window that rises k is answered with itself exactly if it is there and meets the test
  pub alone-exactly-if : rises q s e ≡ true → (k : ℤ) → (alone k ≡ Gives (some k)) ↔ (Holds q s e k × (ok k ≡ true))
  unfolding answer_at
  alone-exactly-if rise k = (there (first_from (wanted k) s e) (first-known (wanted k) s e), back)
    where
      there : (j : ℕ) → First (wanted k) s e j → answer_at q e j ≡ Gives (some k) → Holds q s e k × (ok k ≡ true)
      there j g h =
          ⊎_elim
          (λ (l : j < e). let v : Gives (some (q.at j)) ≡ Gives (some k) = rw (lt-ltb j e l) at h in let i : q.at j ≡ k = cc in
          ((j, g.from, l, i), sym (ap ok i) ∙ and_left (ok (q.at j)) (not (lt_z (q.at j) k)) (g.holds l)))
          (λ (l : e ≤ j). none-given (rw (le-ltb j e l) at h))
          (lt-or-ge j e)

      back : Holds q s e k × (ok k ≡ true) → alone k ≡ Gives (some k)
      back ((i, l, m, is), h) =
          let at : first_from (wanted k) s e ≡ i = first-is (wanted k) s e i l m
          (λ j a b. and-false (ok (q.at j)) (not (lt_z (q.at j) k)) (rw (ap (lt_z (q.at j)) (sym is) ∙ climbs q s e rise j i a b m)))
          (and_both (ok (q.at i)) (not (lt_z (q.at i) k)) (ap ok is ∙ h) (not_yes (lt_z (q.at i) k) (ap (lt_z (q.at i)) (sym is) ∙ lt-self (q.at i)))) in
          ap (answer_at q e) at ∙ rw (lt-ltb i e m) (ap (λ v. Gives (some v)) is)

-- ---- answers that are each number's own

module _ (answer : ℤ → Said (Option ℤ)) (P : ℤ → Type 0) (exactly : (k : ℤ) → (answer k ≡ Gives (some k)) ↔ P k) where
  -- the j-th number and the j-th answer
  pub each : (ks : List ℤ) (j : ℕ) → j < length ks → (get_or (map answer ks) j (Gives none) ≡ Gives (some (get_or ks j (pos 0)))) ↔ P (get_or ks j (pos 0))
  each [] j l = absurd (omega arith)
  each (k ∷ ks) zero l = exactly k
  each (k ∷ ks) (suc j) l = each ks j (omega arith)

  -- found is: answered with itself
  found-is : (k : ℤ) (a : Said (Option ℤ)) → found k a ≡ true → a ≡ Gives (some k)
  found-is k (Gives none) h = absurd (false≢true h)
  found-is k (Gives (some v)) h = ap (λ x. Gives (some x)) (equal_is v k h)
  found-is k (Number n) h = absurd (false≢true h)

  is-found : (k : ℤ) → answer k ≡ Gives (some k) → found k (answer k) ≡ true
  is-found k h = rw (h, lt-self k)

  -- those that are filled: of the numbers, those of which P does not hold
  pub filled-are : (ks : List ℤ) (k : ℤ) → In k (filled ks (map answer ks)) ↔ (In k ks × (P k → ⊥))
  unfolding filled
  filled-are ks k = (there ks, λ h. back ks h.0 h.1)
    where
      there : (ks : List ℤ) → In k (filled ks (map answer ks)) → In k ks × (P k → ⊥)
      there [] h = absurd h
      there (x ∷ ks) h =
          either (found x (answer x)) (λ t. let w = there ks (rw t at h) in (inr w.0, w.1))
          (λ t. let g : (k ≡ x) ⊎ In k (filled ks (map answer ks)) = rw t at h in
          ⊎_elim (λ (e : k ≡ x). (inl e, λ p. clash (is-found x ((exactly x).1 (rw e at p))) t))
          (λ (i : In k (filled ks (map answer ks))). let w = there ks i in (inr w.0, w.1)) g)

      back : (ks : List ℤ) → In k ks → (P k → ⊥) → In k (filled ks (map answer ks))
      back [] i n = absurd i
      back (x ∷ ks) (inl e) n =
          either (found x (answer x)) (λ t. absurd (n (rw e ((exactly x).0 (found-is x (answer x) t))))) (λ t. rw t (inl e))
      back (x ∷ ks) (inr i) n = either (found x (answer x)) (λ t. rw t (back ks i n)) (λ t. rw t (inr (back ks i n)))
