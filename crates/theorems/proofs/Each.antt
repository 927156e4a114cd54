-- DEMAND 3, ANSWER BY ANSWER: what the j-th answer of a run is, and when it is none. Assumes nothing.
--
-- "each answers the earliest element that meets every bound as read at the first call and lies after the last one given (for a seek: at or after it, and
-- not below the target); none exactly if there is no such element." The last one given is what the call before answered; "after" it, in a window that
-- rises, is: above it.
use Prim.Native.Nat.{ℕ, zero, suc, ◌≤◌, ◌<◌}
use mathlib.Core.Path.{◌≡◌, refl, sym, ap, ◌∙◌}
use mathlib.Core.Bool.{Bool, true, false, not, ◌&&◌}
use mathlib.Core.List.{List, [], ◌∷◌}
use mathlib.Core.Option.{Option, some, none}
use mathlib.Core.Logic.{⊎_elim, ◌↔◌}
use native.Mathlib.Omega.{arith}
use native.Mathlib.Nat.{eq-or-lt_of_le}
use borrow.Author.Tests.{lt-ltb, le-ltb}
use lib.ListN.{length, get_or, length-map}
use lib.IntN.{ℤ}
use lib.Signed.{lt_z}
use Rattle.ranges.specs.Ranges.{first_from, every}
use Rattle.ranges.proofs.Bools.{and_both, and-false, not_yes}
use Rattle.ranges.proofs.Order.{lt-self, lt_not}
use Rattle.ranges.proofs.Spans.{First, first-known, first-is, first-none, lt-or-ge}
use Rattle.meaning.specs.Refusals.{Said, Gives}
use Rattle.meaning.specs.Sequence.{Sequence, Source, rises}
use Rattle.meaning.proofs.Judging.{none-given}
use Rattle.bounds.specs.declared.Bound.{Bound}
use Rattle.bounds.specs.declared.Mode.{Mode}
use Rattle.loftsplice.specs.declared.scan.Move.TheVariants.{Next, Seek}
use Rattle.loftsplice.specs.declared.scan.Move.{Move}
use Rattle.loftsplice.specs.Scan.{fresh}
use Rattle.filter_interval.specs.Filter.{Call, new_filter}
use Rattle.theorems.specs.Exact.{accepted}
use Rattle.theorems.specs.Demand3.{answers, moves, all_lower, all_upper, meets_all, tied_in, earliest, answer_at, counts, expected_from, expected}
use Rattle.theorems.specs.Answered.{wanted, since, NoSuch, Earliest}
use Rattle.theorems.proofs.Windows.{climbs}
use Rattle.theorems.proofs.Folded.{run-rises}
use Rattle.theorems.proofs.Demand3.{answers-are-expected, none-exactly-if}

-- ---- an answer at the first index that passes a test

-- two such indices answer alike
same_answer : (q : Sequence) (test : ℕ → Bool) (s e j : ℕ) → First test s e j → answer_at q e j ≡ answer_at q e (first_from test s e)
unfolding answer_at
same_answer q test s e j g =
    ⊎_elim (λ (l : j < e). ap (answer_at q e) (sym (first-is test s e j g.from l g.before (g.holds l))))
    (λ (l : e ≤ j). rw (le-ltb j e l, le-ltb (first_from test s e) e (first-none test s e (λ i a b. g.before i a (omega arith)))))
    (lt-or-ge j e)

-- it gives v exactly if v is the earliest
given-exactly-if : (q : Sequence) (s e : ℕ) (test : ℤ → Bool) (v : ℤ) → (answer_at q e (first_from (λ i. test (q.at i)) s e) ≡ Gives (some v)) ↔ Earliest q s e test v
unfolding answer_at
given-exactly-if q s e test v = (there (first_from at s e) (first-known at s e), back)
  where
    at : ℕ → Bool
    at i = test (q.at i)

    there : (j : ℕ) → First at s e j → answer_at q e j ≡ Gives (some v) → Earliest q s e test v
    there j g h =
        ⊎_elim
        (λ (l : j < e). let w : Gives (some (q.at j)) ≡ Gives (some v) = rw (lt-ltb j e l) at h in let is : q.at j ≡ v = cc in (j, g.from, l, is, g.holds l, g.before))
        (λ (l : e ≤ j). none-given (rw (le-ltb j e l) at h))
        (lt-or-ge j e)

    back : Earliest q s e test v → answer_at q e (first_from at s e) ≡ Gives (some v)
    back (i, l, m, is, h, f) = ap (answer_at q e) (first-is at s e i l m f h) ∙ rw (lt-ltb i e m) (ap (λ x. Gives (some x)) is)

-- ---- what is expected of a call, by what was expected of the one before

module _ (q : Sequence) (s e : ℕ) (rise : rises q s e ≡ true) (ok : ℤ → Bool) where
  -- an index that has an element which the call may give, after the last one given
  abbrev may : Said (Option ℤ) → Move → ℕ → Bool
  may a m i = wanted ok m (q.at i) && since a m (q.at i)

  up_to : (h i : ℕ) → s ≤ h → h ≤ i → i < e → lt_z (q.at i) (q.at h) ≡ false
  up_to h i l m n = ⊎_elim (λ (g : h ≡ i). rw g (lt-self (q.at i))) (λ (g : h < i). lt_not (q.at h) (q.at i) (climbs q s e rise h i l g n)) (eq-or-lt_of_le m)

  -- the call before gave the element at i
  after-given : (i : ℕ) → s ≤ i → i < e → (m : Move) → First (may (Gives (some (q.at i))) m) s e (earliest q e ok (suc i) i m)
  unfolding earliest
  after-given i l n Next = by (first_from (λ h. ok (q.at h)) (suc i) e) (first-known (λ h. ok (q.at h)) (suc i) e)
    where
      by : (r : ℕ) → First (λ h. ok (q.at h)) (suc i) e r → First (may (Gives (some (q.at i))) Next) s e r
      by r g = record {
        from = omega (arith, g.from);
        before = λ h a b. ⊎_elim
            (λ (w : h < suc i). and-false (ok (q.at h)) (lt_z (q.at i) (q.at h)) (up_to h i a (omega arith) n))
            (λ (w : suc i ≤ h). rw (g.before h w b)) (lt-or-ge h (suc i));
        holds = λ m. and_both (ok (q.at r)) (lt_z (q.at i) (q.at r)) (g.holds m) (climbs q s e rise i r l (omega (arith, g.from)) m);
      }
  after-given i l n (Seek t) = by (first_from fits i e) (first-known fits i e)
    where
      fits : ℕ → Bool
      fits h = ok (q.at h) && not (lt_z (q.at h) t)

      by : (r : ℕ) → First fits i e r → First (may (Gives (some (q.at i))) (Seek t)) s e r
      by r g = record {
        from = omega (arith, g.from);
        before = λ h a b. ⊎_elim
            (λ (w : h < i). and-false (fits h) (not (lt_z (q.at h) (q.at i))) (ap not (climbs q s e rise h i a w n)))
            (λ (w : i ≤ h). rw (g.before h w b)) (lt-or-ge h i);
        holds = λ m. and_both (fits r) (not (lt_z (q.at r) (q.at i))) (g.holds m) (not_yes (lt_z (q.at r) (q.at i)) (up_to i r l g.from m));
      }

  -- the call before gave none
  after_none : (i : ℕ) → s ≤ i → e ≤ i → (m : Move) → First (may (Gives none) m) s e (earliest q e ok (suc i) i m)
  unfolding earliest
  after_none i l n m = record { from = omega (arith, past m); before = λ h a b. and-false (wanted ok m (q.at h)) false refl; holds = λ w. absurd (omega (arith, past m)) }
    where
      past : (m : Move) → i ≤ earliest q e ok (suc i) i m
      past Next = omega (arith, (first-known (λ h. ok (q.at h)) (suc i) e).from)
      past (Seek t) = (first-known (λ h. ok (q.at h) && not (lt_z (q.at h) t)) i e).from

  after-answer : (i : ℕ) → s ≤ i → (m : Move) → First (may (answer_at q e i) m) s e (earliest q e ok (suc i) i m)
  unfolding answer_at
  after-answer i l m =
      ⊎_elim (λ (n : i < e). rw (lt-ltb i e n) (after-given i l n m)) (λ (n : e ≤ i). rw (le-ltb i e n) (after_none i l n m)) (lt-or-ge i e)

  from_start : (a b : ℕ) (m : Move) → s ≤ a → s ≤ b → s ≤ earliest q e ok a b m
  unfolding earliest
  from_start a b Next l n = omega (arith, (first-known (λ h. ok (q.at h)) a e).from)
  from_start a b (Seek t) l n = omega (arith, (first-known (λ h. ok (q.at h) && not (lt_z (q.at h) t)) b e).from)

  -- the j-th of the expected answers, or none past the last
  abbrev nth : List (Said (Option ℤ)) → ℕ → Said (Option ℤ)
  nth xs j = get_or xs j (Gives none)

  later : (j : ℕ) (ms : List Move) (a b : ℕ) → s ≤ a → s ≤ b → suc j < length ms
      → nth (expected_from q e ok a b ms) (suc j) ≡ answer_at q e (first_from (may (nth (expected_from q e ok a b ms) j) (get_or ms (suc j) Next)) s e)
  unfolding expected_from
  later j [] a b l n w = absurd (omega arith)
  later j (m ∷ []) a b l n w = absurd (omega arith)
  later zero (m ∷ (n ∷ ms)) a b l r w =
      let i : ℕ = earliest q e ok a b m in
      same_answer q (may (answer_at q e i) n) s e (earliest q e ok (suc i) i n) (after-answer i (from_start a b m l r) n)
  later (suc j) (m ∷ (n ∷ ms)) a b l r w =
      let i : ℕ = earliest q e ok a b m in
      let g : s ≤ i = from_start a b m l r in
      later j (n ∷ ms) (suc i) i (omega arith) g (omega arith)

  first : (m : Move) (ms : List Move) → nth (expected_from q e ok s s (m ∷ ms)) 0 ≡ answer_at q e (first_from (λ i. wanted ok m (q.at i)) s e)
  unfolding expected_from earliest
  first Next ms = refl
  first (Seek t) ms = refl

-- ---- the run itself

-- A run as in `answers-are-expected`: a new filter on a fresh scan, a first call k and calls ks after it, all accepted; no least upper value is given both
-- ways where the inclusive one would win.
module _ (p : Source) (start end : ℕ) (mode : Mode) (lows ups : List Bound) (k : Call) (ks : List Call)
    (all-accepted : every accepted (answers p start end mode lows ups k ks) ≡ true) (no_tie : tied_in mode (all_upper ups k) ≡ false) where
  abbrev q : Sequence
  q = p.sequence

  -- its j-th answer, and its j-th call as it counts
  abbrev answer : ℕ → Said (Option ℤ)
  answer j = get_or (answers p start end mode lows ups k ks) j (Gives none)

  abbrev asked : ℕ → Move
  asked j = get_or (counts (all_lower lows k) k.move ∷ moves ks) j Next

  -- an element that the j-th call may give: the first, and any later one
  abbrev such-first : ℤ → Bool
  such-first x = wanted (meets_all (all_lower lows k) (all_upper ups k)) (asked 0) x

  abbrev such-later : ℕ → ℤ → Bool
  such-later j x = wanted (meets_all (all_lower lows k) (all_upper ups k)) (asked (suc j)) x && since (answer j) (asked (suc j)) x

  run_is : answers p start end mode lows ups k ks ≡ expected_from q end (meets_all (all_lower lows k) (all_upper ups k)) start start (counts (all_lower lows k) k.move ∷ moves ks)
  unfolding expected
  run_is = answers-are-expected p start end mode lows ups k ks all-accepted no_tie

  rising : rises q start end ≡ true
  rising = run-rises p k ks (new_filter (fresh start end) mode lows ups) all-accepted

  first-is-at : answer 0 ≡ answer_at q end (first_from (λ i. such-first (q.at i)) start end)
  first-is-at = ap (λ xs. get_or xs 0 (Gives none)) run_is ∙ first q start end rising (meets_all (all_lower lows k) (all_upper ups k)) (asked 0) (moves ks)

  later-is-at : (j : ℕ) → j < length ks → answer (suc j) ≡ answer_at q end (first_from (λ i. such-later j (q.at i)) start end)
  later-is-at j l =
      rw run_is (later q start end rising (meets_all (all_lower lows k) (all_upper ups k)) j (counts (all_lower lows k) k.move ∷ moves ks) start start (omega arith) (omega arith)
      (omega (arith, length-map ks (λ (k : Call). k.move))))

  -- "none exactly if there is no such element"
  pub first-none-exactly-if : (answer 0 ≡ Gives none) ↔ NoSuch q start end such-first
  first-none-exactly-if = rw first-is-at (none-exactly-if q (λ i. such-first (q.at i)) start end)

  pub later-none-exactly-if : (j : ℕ) → j < length ks → (answer (suc j) ≡ Gives none) ↔ NoSuch q start end (such-later j)
  later-none-exactly-if j l = rw (later-is-at j l) (none-exactly-if q (λ i. such-later j (q.at i)) start end)

  -- "each answers the earliest element": v is given exactly if it is that
  pub first-given-exactly-if : (v : ℤ) → (answer 0 ≡ Gives (some v)) ↔ Earliest q start end such-first v
  first-given-exactly-if v = rw first-is-at (given-exactly-if q start end such-first v)

  pub later-given-exactly-if : (j : ℕ) → j < length ks → (v : ℤ) → (answer (suc j) ≡ Gives (some v)) ↔ Earliest q start end (such-later j) v
  later-given-exactly-if j l v = rw (later-is-at j l) (given-exactly-if q start end (such-later j) v)
