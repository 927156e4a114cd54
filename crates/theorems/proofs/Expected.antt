-- The expected answers: none stays none, next alone lists, and all are a walk through a list. Assumes nothing.
use Prim.Native.Nat.{ℕ, zero, suc, ◌-◌, ◌≤◌, ◌<◌}
use mathlib.Core.Path.{◌≡◌, refl, ap, ◌∙◌}
use mathlib.Core.Bool.{Bool, true, cond, not, ◌&&◌, false≢true}
use mathlib.Core.List.{List, [], ◌∷◌, map}
use mathlib.Core.Option.{Option, some, none}
use native.Mathlib.Omega.{arith}
use borrow.Author.Tests.{lt-ltb, le-ltb, ltb-true, ltb-false}
use lib.Dec.{ltb}
use lib.ListN.{length}
use lib.IntN.{ℤ}
use lib.Signed.{lt_z}
use Rattle.ranges.specs.Ranges.{first_for, first_from, every}
use Rattle.ranges.proofs.Bools.{either, and_left, and_right, same_after}
use Rattle.ranges.proofs.Spans.{first-known, first-now}
use Rattle.meaning.specs.Refusals.{Said, Gives}
use Rattle.meaning.specs.Sequence.{Sequence, elements_for, elements_in}
use Rattle.loftsplice.specs.declared.scan.Move.TheVariants.{Next, Seek}
use Rattle.loftsplice.specs.declared.scan.Move.{Move}
use Rattle.loftsplice.specs.Listing.{those}
use Rattle.theorems.specs.Demand3.{earliest, answer_at, expected_from}
use Rattle.theorems.specs.Runs.{is_none, none_stays, is_next, listing, not_below, ahead, walk}

pub is-next : (m : Move) → is_next m ≡ true → m ≡ Next
is-next Next h = refl
is-next (Seek x) h = absurd (false≢true h)

-- none for each of some calls
abbrev pub nones : List Move → List (Said (Option ℤ))
nones ms = map (λ (m : Move). Gives none) ms

all_none : (ms : List Move) → every is_none (nones ms) ≡ true
unfolding every
all_none [] = refl
all_none (m ∷ ms) = all_none ms

module _ (q : Sequence) (e : ℕ) (ok : ℤ → Bool) where
  -- ---- none stays none

  -- nothing is expected past the window's end
  far : (a b : ℕ) (m : Move) → e ≤ a → e ≤ b → e ≤ earliest q e ok a b m
  unfolding earliest
  far a b Next l m = omega (arith, (first-known (λ i. ok (q.at i)) a e).from)
  far a b (Seek x) l m = omega (arith, (first-known (λ i. ok (q.at i) && not (lt_z (q.at i) x)) b e).from)

  pub over-run : (a b : ℕ) (ms : List Move) → e ≤ a → e ≤ b → expected_from q e ok a b ms ≡ nones ms
  unfolding expected_from answer_at
  over-run a b [] l m = refl
  over-run a b (x ∷ ms) l m =
      let i : ℕ = earliest q e ok a b x in
      let n : e ≤ i = far a b x l m in
      rw (le-ltb i e n) (same_after (Gives none) (over-run (suc i) i ms (omega arith) n))

  pub stays-none : (a b : ℕ) (ms : List Move) → none_stays (expected_from q e ok a b ms) ≡ true
  unfolding expected_from answer_at none_stays
  stays-none a b [] = refl
  stays-none a b (x ∷ ms) =
      let i : ℕ = earliest q e ok a b x in
      either (ltb i e) (λ t. rw t (stays-none (suc i) i ms)) (λ t. let n : e ≤ i = ltb-false i e t in rw (t, over-run (suc i) i ms (omega arith) n) (all_none ms))

  -- ---- the elements that meet the test, from an index on

  abbrev such : ℕ → List ℤ
  such a = those ok (elements_in q a e)

  -- a list that begins with the element at i, and goes on with those after it; or is empty
  abbrev begun : ℕ → List ℤ
  begun i = cond (ltb i e) (q.at i ∷ such (suc i)) []

  such-for : (n a : ℕ) → e - a ≡ n → those ok (elements_for q a n) ≡ begun (first_for (λ i. ok (q.at i)) a n)
  unfolding those elements_for first_for
  such-for zero a h = rw (le-ltb a e (omega arith))
  such-for (suc n) a h =
      either (ok (q.at a))
      (λ t. let z : e - suc a ≡ n = omega arith in rw (t, lt-ltb a e (omega arith), z))
      (λ t. rw t (such-for n (suc a) (omega arith)))

  such-empty : (a : ℕ) → e ≤ a → such a ≡ []
  unfolding those elements_for
  such-empty a l = let z : e - a ≡ 0 = omega arith in rw z

  such-next : (a : ℕ) → such a ≡ begun (first_from (λ i. ok (q.at i)) a e)
  such-next a = such-for (e - a) a refl

  such-here : (i : ℕ) → i < e → ok (q.at i) ≡ true → such i ≡ (q.at i ∷ such (suc i))
  such-here i l h = such-next i ∙ rw (first-now (λ j. ok (q.at j)) i e (λ m. h), lt-ltb i e l)

  -- ---- next alone

  pub nexts-list : (a b : ℕ) (ms : List Move) → every is_next ms ≡ true → expected_from q e ok a b ms ≡ listing (length ms) (such a)
  unfolding expected_from answer_at every listing earliest
  nexts-list a b [] h = refl
  nexts-list a b (m ∷ ms) h =
      let i : ℕ = first_from (λ j. ok (q.at j)) a e in
      let rest : expected_from q e ok (suc i) i ms ≡ listing (length ms) (such (suc i)) = nexts-list (suc i) i ms (and_right (is_next m) (every is_next ms) h) in
      rw (is-next m (and_left (is_next m) (every is_next ms) h), such-next a)
      (either (ltb i e)
      (λ t. rw t (same_after (Gives (some (q.at i))) rest))
      (λ t. rw t (same_after (Gives none) (rest ∙ ap (listing (length ms)) (such-empty (suc i) (omega (arith, ltb-false i e t)))))))

  -- ---- the walk

  below-for : (x : ℤ) (n a : ℕ) → e - a ≡ n → not_below x (those ok (elements_for q a n)) ≡ begun (first_for (λ i. ok (q.at i) && not (lt_z (q.at i) x)) a n)
  unfolding those elements_for first_for not_below
  below-for x zero a h = rw (le-ltb a e (omega arith))
  below-for x (suc n) a h =
      either (ok (q.at a))
      (λ t. either (lt_z (q.at a) x)
      (λ w. rw (t, w) (below-for x n (suc a) (omega arith)))
      (λ w. let z : e - suc a ≡ n = omega arith in rw (t, w, lt-ltb a e (omega arith), z)))
      (λ t. rw t (below-for x n (suc a) (omega arith)))

  -- what is ahead begins at the earliest index
  ahead-is : (a b : ℕ) (m : Move) → ahead (such a) (such b) m ≡ begun (earliest q e ok a b m)
  unfolding earliest
  ahead-is a b Next = such-next a
  ahead-is a b (Seek x) = below-for x (e - b) b refl

  pub meets-there : (a b : ℕ) (m : Move) → earliest q e ok a b m < e → ok (q.at (earliest q e ok a b m)) ≡ true
  unfolding earliest
  meets-there a b Next l = (first-known (λ i. ok (q.at i)) a e).holds l
  meets-there a b (Seek x) l =
      and_left (ok (q.at (earliest q e ok a b (Seek x)))) (not (lt_z (q.at (earliest q e ok a b (Seek x))) x)) ((first-known (λ i. ok (q.at i) && not (lt_z (q.at i) x)) b e).holds l)

  pub walks : (a b : ℕ) (ms : List Move) → expected_from q e ok a b ms ≡ walk (such a) (such b) ms
  unfolding expected_from answer_at walk
  walks a b [] = refl
  walks a b (m ∷ ms) =
      let i : ℕ = earliest q e ok a b m in
      let next : expected_from q e ok (suc i) i ms ≡ walk (such (suc i)) (such i) ms = walks (suc i) i ms in
      either (ltb i e)
      (λ t. rw (ahead-is a b m, t) (same_after (Gives (some (q.at i))) (rw (such-here i (ltb-true i e t) (meets-there a b m (ltb-true i e t))) at next)))
      (λ t. rw (ahead-is a b m, t)
      (same_after (Gives none) (rw (such-empty (suc i) (omega (arith, ltb-false i e t)), such-empty i (ltb-false i e t)) at next)))
