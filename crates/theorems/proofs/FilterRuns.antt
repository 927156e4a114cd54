-- Runs of calls on a filter over a window that rises: each call lands at an index, and the upper bound decides. Assumes nothing.
use Prim.Native.Nat.{ℕ, suc, ◌≤◌, ◌<◌}
use mathlib.Core.Path.{◌≡◌, refl, sym, ap, ◌∙◌, fun_ext}
use mathlib.Core.Bool.{Bool, true, false, not, ◌&&◌}
use mathlib.Core.List.{List, [], ◌∷◌}
use mathlib.Core.Option.{Option, some, none}
use mathlib.Core.Logic.{⊎_elim}
use native.Mathlib.Omega.{arith}
use native.Mathlib.Nat.{le_refl}
use borrow.Author.Tests.{le-ltb, ltb-true, ltb-false, not-false}
use lib.Dec.{ltb}
use lib.IntN.{ℤ}
use lib.Signed.{lt_z}
use Rattle.ranges.specs.Ranges.{first_from}
use Rattle.ranges.proofs.Bools.{either, clash, and_left, and_both, and-false, and-swap, not-no, same_after}
use Rattle.ranges.proofs.Order.{lt_same, lt_not}
use Rattle.ranges.proofs.Spans.{First, first-known, first-is, first-none, lt-or-ge}
use Rattle.meaning.specs.Refusals.{Said, Gives}
use Rattle.meaning.specs.Sequence.{Sequence, rises, first_not_below}
use Rattle.loftsplice.specs.Lead.{on_past, lead_from}
use Rattle.loftsplice.specs.declared.scan.Move.TheVariants.{Next, Seek}
use Rattle.loftsplice.specs.declared.scan.Move.{Move}
use Rattle.loftsplice.specs.declared.scan.State.{State}
use Rattle.loftsplice.specs.declared.scan.State.TheVariants.{Fresh, At, Ended}
use Rattle.loftsplice.specs.declared.scan.Scan.{Scan}
use Rattle.bounds.specs.declared.BoundaryType.{BoundaryType}
use Rattle.bounds.specs.declared.BoundaryType.TheVariants.{Inclusive, Exclusive}
use Rattle.bounds.specs.declared.Bound.{Bound}
use Rattle.bounds.specs.declared.Mode.{Mode}
use Rattle.bounds.specs.declared.Limit.{Limit}
use Rattle.bounds.specs.declared.Limit.TheVariants.{Free, To}
use Rattle.filter_interval.specs.declared.FilterState.{FilterState}
use Rattle.filter_interval.specs.declared.FilterState.TheVariants.{Before, Within, After}
use Rattle.filter_interval.specs.declared.Filter.{Filter}
use Rattle.loftsplice.specs.Scan.{fresh, put, go_to, next_from, seek_from, move_scan}
use Rattle.bounds.specs.Bounds.{inclusive, greater, meets_lower, within, above}
use Rattle.filter_interval.specs.Filter.{Sifting, Call, raised, settle, step_from, lead_to}
use Rattle.theorems.specs.Demand3.{moves, earliest, answer_at, expected_from}
use Rattle.theorems.proofs.Bounds.{lower-two}
use Rattle.theorems.proofs.Expected.{nones, over-run}
use Rattle.theorems.proofs.Windows.{climbs, within-back, above_on}

-- ---- calls without their refusals

unfoldable pub steps : Sequence → Filter → List Call → List (Said (Option ℤ))
steps q f [] = []
steps q f (k ∷ ks) = (step_from q k f f.state).said ∷ steps q (step_from q k f f.state).filter ks

-- a call's answer, and those of the calls after it
abbrev pub on : Sequence → Sifting → List Call → List (Said (Option ℤ))
on q m ks = m.said ∷ steps q m.filter ks

abbrev filter_of : Sequence → ℕ → ℕ → Mode → Limit → Limit → State → FilterState → Filter
filter_of q s e mode l u t w = record { scan = put q (fresh s e) t; mode = mode; lower = l; upper = u; state = w }

-- a first call that reads the bounds low and up
abbrev pub begins : Sequence → ℕ → ℕ → Mode → Limit → Limit → Limit → Limit → Move → Sifting
begins q s e mode l u up low m = settle (filter_of q s e mode l u Fresh Before) up (lead_from q (lead_to (raised m low)) (fresh s e))

-- the two folded bounds
abbrev pub both : Limit → Limit → ℤ → Bool
both low up v = above low v && within up v

-- a call that is answered with what stands at index r, and the calls after it
abbrev From : Sequence → ℕ → (ℤ → Bool) → ℕ → List Call → List (Said (Option ℤ))
From q e ok r ks = answer_at q e r ∷ expected_from q e ok (suc r) r (moves ks)

-- After stays After
after_run : (q : Sequence) (s : Scan) (mode : Mode) (l u : Limit) (ks : List Call) → steps q (record { scan = s; mode = mode; lower = l; upper = u; state = After }) ks ≡ nones (moves ks)
unfolding steps step_from
after_run q s mode l u [] = refl
after_run q s mode l u (k ∷ ks) = same_after (Gives none) (after_run q s mode l u ks)

module _ (q : Sequence) (s e : ℕ) (rise : rises q s e ≡ true) where
  -- ---- a scan that lands at the first index that passes p, and is then within the upper bound or not

  module _ (up : Limit) (p : ℤ → Bool) (a j : ℕ) (left : s ≤ a) (lands : First (λ i. p (q.at i)) a e j) where
    land-in : j < e → within up (q.at j) ≡ true → first_from (λ i. p (q.at i) && within up (q.at i)) a e ≡ j
    land-in l w =
        first-is (λ i. p (q.at i) && within up (q.at i)) a e j lands.from l (λ k u v. rw (lands.before k u v))
        (and_both (p (q.at j)) (within up (q.at j)) (lands.holds l) w)

    land-out : (j < e → within up (q.at j) ≡ false) → e ≤ first_from (λ i. p (q.at i) && within up (q.at i)) a e
    land-out w =
        first-none (λ i. p (q.at i) && within up (q.at i)) a e
        (λ k u v. ⊎_elim (λ (g : k < j). rw (lands.before k u g)) (λ (g : j ≤ k). and-false (p (q.at k)) (within up (q.at k)) (too_far k g v)) (lt-or-ge k j))
      where
        too_far : (k : ℕ) → j ≤ k → k < e → within up (q.at k) ≡ false
        too_far k g v =
            let l : s ≤ j = omega (arith, lands.from) in
            let n : j < e = omega arith in
            either (within up (q.at k)) (λ h. clash (within-back q s e rise up j k l g v h) (w n)) (λ h. h)

    -- the call's answer and those of the calls after it
    module _ (ok : ℤ → Bool) (mode : Mode) (l u : Limit) (t : State) (w : FilterState) (ks : List Call) where
      abbrev step : Sifting
      step = settle (filter_of q s e mode l u t w) up (go_to q (put q (fresh s e) t) j)

      settle-in : ltb j e ≡ true → within up (q.at j) ≡ true → step ≡ record { filter = filter_of q s e mode l u (At j) (Within up); said = Gives (some (q.at j)) }
      unfolding settle go_to
      settle-in b c = rw (b, c)

      settle-out : ltb j e ≡ true → within up (q.at j) ≡ false → step ≡ record { filter = filter_of q s e mode l u (At j) After; said = Gives none }
      unfolding settle go_to
      settle-out b c = rw (b, c)

      settle-end : ltb j e ≡ false → step ≡ record { filter = filter_of q s e mode l u Ended After; said = Gives none }
      unfolding settle go_to
      settle-end b = rw b

      -- the last answer is none
      stops : (t : State) → step ≡ record { filter = filter_of q s e mode l u t After; said = Gives none }
          → (r : ℕ) → e ≤ r → on q step ks ≡ From q e ok r ks
      unfolding answer_at
      stops t m r n =
          rw (m, le-ltb r e n)
          (same_after (Gives none) (after_run q (put q (fresh s e) t) mode l u ks ∙ sym (over-run q e ok (suc r) r (moves ks) (omega arith) n)))

      landed : (j < e → p (q.at j) ≡ true → steps q (filter_of q s e mode l u (At j) (Within up)) ks ≡ expected_from q e ok (suc j) j (moves ks))
          → (r : ℕ) → r ≡ first_from (λ i. p (q.at i) && within up (q.at i)) a e
          → on q step ks ≡ From q e ok r ks
      unfolding answer_at
      landed ih r is =
          either (ltb j e)
          (λ b. either (within up (q.at j))
          (λ c. let g : j < e = ltb-true j e b in
          rw (settle-in b c, is ∙ land-in g c, b) (same_after (Gives (some (q.at j))) (ih g (lands.holds g))))
          (λ c. stops (At j) (settle-out b c) r (rw is (land-out (λ g. c)))))
          (λ b. stops Ended (settle-end b) r (rw is (land-out (λ g. absurd (omega (arith, ltb-false j e b))))))

  -- ---- calls of a filter that is Within: all elements from the last one given on meet the lower bound

  module _ (low up : Limit) (mode : Mode) (l u : Limit) where
    abbrev Known : List Call → Type 0
    Known ks = (j : ℕ) → s ≤ j → j < e → above low (q.at j) ≡ true → steps q (filter_of q s e mode l u (At j) (Within up)) ks ≡ expected_from q e (both low up) (suc j) j (moves ks)

    swapped : (x : ℤ) (a : ℕ) → first_from (λ i. both low up (q.at i) && not (lt_z (q.at i) x)) a e
        ≡ first_from (λ i. (above low (q.at i) && not (lt_z (q.at i) x)) && within up (q.at i)) a e
    swapped x a = ap (λ (p : ℕ → Bool). first_from p a e) (fun_ext (λ (i : ℕ). and-swap (above low (q.at i)) (within up (q.at i)) (not (lt_z (q.at i) x))))

    by_move : (i : ℕ) → s ≤ i → i < e → above low (q.at i) ≡ true → (ks : List Call) → Known ks → (m : Move)
        → on q (settle (filter_of q s e mode l u (At i) (Within up)) up (move_scan q m (put q (fresh s e) (At i)))) ks ≡ From q e (both low up) (earliest q e (both low up) (suc i) i m) ks
    unfolding next_from seek_from earliest
    by_move i a b h ks ih Next =
        landed up (above low) (suc i) (suc i) (omega arith)
        (record { from = le_refl (suc i); before = λ k x y. absurd (omega arith); holds = λ g. above_on q s e rise low i (suc i) a (omega arith) g h })
        (both low up) mode l u (At i) (Within up) ks (λ g o. ih (suc i) (omega arith) g o) (first_from (λ k. both low up (q.at k)) (suc i) e) refl
    by_move i a b h ks ih (Seek x) =
        let j : ℕ = first_not_below q x i e in
        let g : First (λ k. not (lt_z (q.at k) x)) i e j = first-known (λ k. not (lt_z (q.at k) x)) i e in
        landed up (λ v. above low v && not (lt_z v x)) i j a
        (record {
          from = g.from;
          before = λ k y z. and-false (above low (q.at k)) (not (lt_z (q.at k) x)) (g.before k y z);
          holds = λ n. and_both (above low (q.at j)) (not (lt_z (q.at j) x)) (above_on q s e rise low i j a g.from n h) (g.holds n);
        })
        (both low up) mode l u (At i) (Within up) ks
        (λ n o. ih j (omega (arith, g.from)) n (and_left (above low (q.at j)) (not (lt_z (q.at j) x)) o))
        (first_from (λ k. both low up (q.at k) && not (lt_z (q.at k) x)) i e) (swapped x i)

    within-run : (ks : List Call) → Known ks
    unfolding expected_from steps step_from lead_from
    within-run [] i a b h = refl
    within-run (k ∷ ks) i a b h = by_move i a b h ks (within-run ks) k.move

  -- ---- the first call: the scan arrives at the first element that meets the lower bound

  go-first : (p : ℕ → Bool) (r : ℕ) → First p s e r → go_to q (fresh s e) r ≡ go_to q (fresh s e) (first_from p s e)
  unfolding go_to
  go-first p r g =
      ⊎_elim (λ (n : r < e). ap (λ (i : ℕ). go_to q (fresh s e) i) (sym (first-is p s e r g.from n g.before (g.holds n))))
      (λ (n : e ≤ r). rw (le-ltb r e n, le-ltb (first_from p s e) e (first-none p s e (λ k a b. g.before k a (omega arith)))))
      (lt-or-ge r e)

  module _ (x : ℤ) (j : ℕ) where
    past_end : ltb j e ≡ false → on_past q x (go_to q (fresh s e) j) ≡ go_to q (fresh s e) j
    unfolding on_past go_to
    past_end b = rw b

    past-stay : ltb j e ≡ true → lt_z (q.at j) x ≡ false → lt_z x (q.at j) ≡ true → on_past q x (go_to q (fresh s e) j) ≡ go_to q (fresh s e) j
    unfolding on_past go_to
    past-stay b c d = rw (b, c, d)

    past-step : ltb j e ≡ true → lt_z (q.at j) x ≡ false → lt_z x (q.at j) ≡ false → on_past q x (go_to q (fresh s e) j) ≡ go_to q (fresh s e) (suc j)
    unfolding on_past go_to next_from
    past-step b c d = rw (b, c, d)

    arrive-exclusive : First (λ i. not (lt_z (q.at i) x)) s e j → on_past q x (go_to q (fresh s e) j) ≡ go_to q (fresh s e) (first_from (λ i. lt_z x (q.at i)) s e)
    arrive-exclusive g =
        either (ltb j e)
        (λ b. let n : j < e = ltb-true j e b in let c : lt_z (q.at j) x ≡ false = not-no (lt_z (q.at j) x) (g.holds n) in
        either (lt_z x (q.at j))
        (λ d. past-stay b c d ∙ go-first (λ i. lt_z x (q.at i)) j (record { from = g.from; before = low; holds = λ m. d }))
        (λ d. past-step b c d ∙ go-first (λ i. lt_z x (q.at i)) (suc j)
        (record {
          from = omega (arith, g.from);
          before = λ k y z. ⊎_elim (λ (w : k < j). low k y w) (λ (w : j ≤ k). let o : k ≡ j = omega arith in rw o d) (lt-or-ge k j);
          holds = λ m. ap (λ v. lt_z v (q.at (suc j))) (lt_same x (q.at j) d c) ∙ climbs q s e rise j (suc j) g.from (omega arith) m;
        })))
        (λ b. past_end b ∙ go-first (λ i. lt_z x (q.at i)) j (record { from = g.from; before = low; holds = λ m. absurd (omega (arith, ltb-false j e b)) }))
      where
        low : (k : ℕ) → s ≤ k → k < j → lt_z x (q.at k) ≡ false
        low k a b = lt_not (q.at k) x (not-false (lt_z (q.at k) x) (g.before k a b))

  pub arrive-at : (t : BoundaryType) (x : ℤ) → lead_from q (lead_to (To (record { boundary = t; value = x }))) (fresh s e)
      ≡ go_to q (fresh s e) (first_from (λ i. meets_lower (q.at i) (record { boundary = t; value = x })) s e)
  unfolding lead_from seek_from meets_lower
  arrive-at Inclusive x = refl
  arrive-at Exclusive x = arrive-exclusive x (first_not_below q x s e) (first-known (λ i. not (lt_z (q.at i) x)) s e)

  -- ---- a first call, whose bounds are folded to low and up

  raised-meets : (b : Bound) (x : ℤ) → first_from (λ i. meets_lower (q.at i) (greater b (inclusive x))) s e ≡ first_from (λ i. meets_lower (q.at i) b && not (lt_z (q.at i) x)) s e
  unfolding meets_lower
  raised-meets b x = ap (λ (p : ℕ → Bool). first_from p s e) (fun_ext (λ (i : ℕ). lower-two (q.at i) b (inclusive x)))

  raised-free : (m : Move) → raised m Free ≡ Free
  raised-free Next = refl
  raised-free (Seek x) = refl

  module _ (up : Limit) (mode : Mode) (l u : Limit) (ks : List Call) where
    -- with no lower bound
    pub first-open : (m : Move) → on q (begins q s e mode l u up Free m) ks ≡ From q e (both Free up) (earliest q e (both Free up) s s Next) ks
    unfolding lead_from next_from earliest
    first-open m =
        rw (raised-free m)
        (landed up (above Free) s s (le_refl s) (record { from = le_refl s; before = λ k x y. absurd (omega arith); holds = λ g. refl }) (both Free up) mode l u Fresh Before ks
        (λ g o. within-run Free up mode l u ks s (le_refl s) g o) (first_from (λ i. both Free up (q.at i)) s e) refl)

    -- with one
    pub first-low : (b : Bound) (m : Move) → on q (begins q s e mode l u up (To b) m) ks ≡ From q e (both (To b) up) (earliest q e (both (To b) up) s s m) ks
    unfolding earliest
    first-low b Next =
        let j : ℕ = first_from (λ i. meets_lower (q.at i) b) s e in
        let g : First (λ i. meets_lower (q.at i) b) s e j = first-known (λ i. meets_lower (q.at i) b) s e in
        rw (arrive-at b.boundary b.value) (landed up (above (To b)) s j (le_refl s) g (both (To b) up) mode l u Fresh Before ks
        (λ n o. within-run (To b) up mode l u ks j g.from n o) (first_from (λ i. both (To b) up (q.at i)) s e) refl)
    first-low b (Seek x) =
        let j : ℕ = first_from (λ i. meets_lower (q.at i) b && not (lt_z (q.at i) x)) s e in
        let g : First (λ i. meets_lower (q.at i) b && not (lt_z (q.at i) x)) s e j = first-known (λ i. meets_lower (q.at i) b && not (lt_z (q.at i) x)) s e in
        let y : lead_from q (lead_to (To (greater b (inclusive x)))) (fresh s e) ≡ go_to q (fresh s e) j
        = arrive-at (greater b (inclusive x)).boundary (greater b (inclusive x)).value ∙ ap (λ (i : ℕ). go_to q (fresh s e) i) (raised-meets b x) in
        rw y (landed up (λ v. meets_lower v b && not (lt_z v x)) s j (le_refl s) g (both (To b) up) mode l u Fresh Before ks
        (λ n o. within-run (To b) up mode l u ks j g.from n (and_left (meets_lower (q.at j) b) (not (lt_z (q.at j) x)) o))
        (first_from (λ i. both (To b) up (q.at i) && not (lt_z (q.at i) x)) s e) (swapped (To b) up mode l u x s))
