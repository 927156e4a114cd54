-- A run that seeks enter: the part of it that is left, and the run that is entered next. Assumes nothing.
use Prim.Native.Nat.{ℕ, suc, ◌+◌, ◌-◌, ◌≤◌, ◌<◌, min}
use mathlib.Core.Path.{◌≡◌, sym, ap, ◌∙◌}
use mathlib.Core.Logic.{⊎_elim}
use mathlib.Core.Bool.{true, false, not}
use native.Mathlib.Omega.{arith}
use native.Mathlib.Nat.{le_refl, eq-or-lt_of_le}
use borrow.Author.Tests.{ltb-true}
use lib.IntN.{ℤ}
use lib.Signed.{lt_z, mag}
use Rattle.ranges.specs.Ranges.{first_from}
use Rattle.ranges.proofs.Bools.{clash}
use Rattle.ranges.proofs.Order.{lt-le}
use Rattle.ranges.proofs.Spans.{first-known, first_to, first-skip, lt-or-ge}
use Rattle.keys.specs.Widths.{fits_in, half64}
use Rattle.keys.proofs.Widths.{in-mag, convex}
use Rattle.meaning.specs.Sequence.{rises, first_not_below}
use Rattle.meaning.specs.Column.{Column, start_of, end_of, step_of, end_before, runs, size_of, offset, run_of, run_ok, element_at, sequence_of}
use Rattle.meaning.proofs.Runs.{before-is, climb, end-le-before, run-in, run-there, run-above, run-from, run-mono}
use Rattle.meaning.proofs.Soundness.{Sound}
use Rattle.meaning.proofs.Rise.{rises-at, later-above, before-below, at_in, at_first, step-in}
use Rattle.meaning.proofs.Elements.{offset-on}
use Rattle.run_calls.specs.Inner.{Strip}

module _ (c : Column) (end from : ℕ) where
  -- a run that is entered at an index of the window
  pub record Entered (run index : ℕ) (base : ℤ) : Type 0 where
    pub above : from ≤ index
    pub below : index < end
    pub in-run : run ≡ run_of c.ends index
    pub is : base ≡ element_at c index
    pub small : mag base < half64

module _ (c : Column) (s : Sound c) (end from : ℕ) (fit : end ≤ size_of c) (up : rises (sequence_of c) from end ≡ true) where
  module _ {run index : ℕ} {base : ℤ} (e : Entered c end from run index base) where
    pub held : run < runs c
    held = rw e.in-run (run-there c.ends index (omega (arith, e.below)))

    begins : end_before c.ends run ≤ index
    begins = rw e.in-run (run-from c.ends index)

    pub short : index < end_of c run
    short = rw e.in-run (run-above c.ends index (run-there c.ends index (omega (arith, e.below))))

    base-is : base ≡ offset (start_of c run) (step_of c run) (index - end_before c.ends run)
    base-is = e.is ∙ at_in c s.up run index held begins short

    shifted : (k : ℕ) → offset (start_of c run) (step_of c run) (index + k - end_before c.ends run) ≡ offset base (step_of c run) k
    shifted k =
        let n : index + k - end_before c.ends run ≡ (index - end_before c.ends run) + k = omega (arith, begins) in
        rw (n, base-is) (offset-on (start_of c run) (step_of c run) (index - end_before c.ends run) k)

    -- what is left of the run reaches as far as the run does
    reaches : fits_in half64 (offset base (step_of c run) (end_of c run - 1 - index)) ≡ true
    unfolding run_ok
    reaches =
        let n : index + (end_of c run - 1 - index) - end_before c.ends run ≡ end_of c run - end_before c.ends run - 1 = omega (arith, begins, short) in
        sym (ap (fits_in half64) (shifted (end_of c run - 1 - index))) ∙ rw n (s.reach run held)

    -- ---- up to the window's end

    module _ (upto : ℕ) (is-upto : upto ≡ min end (end_of c run)) where
      pub after : index < upto
      after = omega (arith, e.below, short)

      pub strip-at : (k : ℕ) → k < upto - index → element_at c (index + k) ≡ offset base (step_of c run) k
      strip-at k l = at_in c s.up run (index + k) held (omega (arith, begins)) (omega arith) ∙ shifted k

      pub strip : Strip base (step_of c run) (upto - index)
      strip = record {
        some = omega (arith, after);
        few = omega (arith, s.most run held);
        fits = λ k l. ltb-true (mag (offset base (step_of c run) k)) half64
            (sym (in-mag half64 (offset base (step_of c run) k)) ∙ convex half64 base (step_of c run) k (end_of c run - 1 - index) e.small reaches (omega arith));
        steep = λ l. sym (step-in c s.up run index held begins (omega arith)) ∙ rises-at (sequence_of c) from end up index e.above (omega arith);
      }

      -- its last element
      last-at : element_at c (upto - 1) ≡ offset base (step_of c run) (upto - index - 1)
      last-at =
          let n : index + (upto - index - 1) ≡ upto - 1 = omega (arith, after) in
          ap (element_at c) (sym n) ∙ strip-at (upto - index - 1) (omega (arith, after))

      -- ---- past it: a target above its last element, and not above the window's

      module _ (x : ℤ) (far : lt_z (offset base (step_of c run) (upto - index - 1)) x ≡ true) (near : lt_z (element_at c (end - 1)) x ≡ false)
          (last : ℕ) (is_last : last ≡ run_of c.ends (end - 1)) where
        pub last-there : last < runs c
        last-there = rw is_last (run-there c.ends (end - 1) (omega (arith, e.below)))

        last-above : end - 1 < end_of c last
        last-above = rw is_last (run-above c.ends (end - 1) (run-there c.ends (end - 1) (omega (arith, e.below))))

        last-from : end_before c.ends last ≤ end - 1
        last-from = rw is_last (run-from c.ends (end - 1))

        -- there are more runs
        pub later-run : run + 1 ≤ last
        later-run = ⊎_elim
            (λ (g : run < last). omega arith)
            (λ (g : last ≤ run).
            let m : run ≤ last = rw (e.in-run, is_last) (run-mono c.ends index (end - 1) (omega (arith, e.below))) in
            let same : run ≡ last = omega arith in
            let above : end - 1 < end_of c run = rw same last-above in
            let all : upto ≡ end = omega (arith, e.below) in
            clash (rw (sym last-at, all) at far) near)
            (lt-or-ge run last)

        module _ (r : ℕ) (is-r : r ≡ first_from (λ k. lt_z x (start_of c (suc k))) (run + 1) last) where
          pub later : (run + 1 ≤ r) × (r ≤ last)
          later = rw is-r ((first-known (λ k. lt_z x (start_of c (suc k))) (run + 1) last).from, first_to (λ k. lt_z x (start_of c (suc k))) (run + 1) last later-run)

          pub there : r < runs c
          there = omega (arith, later, last-there)

          starts-low : run + 1 < r → lt_z x (start_of c r) ≡ false
          starts-low l =
              let n : suc (r - 1) ≡ r = omega arith in
              let b : lt_z x (start_of c (suc (r - 1))) ≡ false = (first-known (λ k. lt_z x (start_of c (suc k))) (run + 1) last).before (r - 1) (omega arith) (omega (arith, is-r)) in
              rw n at b

          begun : end_before c.ends r < end
          begun = omega (arith, last-from, climb c.ends (runs c) s.up r last later.1 (omega (arith, last-there)), e.below)

          -- the run is left behind whole
          ends : upto ≡ end_of c run
          ends = omega (arith, end-le-before c.ends s.up run last (omega (arith, later-run)) (omega (arith, last-there)), last-from, e.below)

          left : end_of c run ≤ end_before c.ends r
          left = end-le-before c.ends s.up run r (omega (arith, later)) (omega (arith, there))

          -- all that lies before the run r is below x
          passed : (i j : ℕ) → index ≤ i → i ≤ j → j < end_before c.ends r → lt_z (element_at c j) x ≡ true
          passed i j a b l = ⊎_elim
              (λ (g : run + 1 ≡ r).
              let n : end_before c.ends r ≡ upto = ap (end_before c.ends) (sym g) ∙ next ∙ sym ends in
              before-below (sequence_of c) from end up x (upto - 1) (omega (arith, begun)) (rw last-at far) j (omega (arith, e.above)) (omega arith))
              (λ (g : run + 1 < r).
              lt-le (element_at c j) (start_of c r) x
              (rw (at_first c s.up r there) at (later-above (sequence_of c) from end up j (end_before c.ends r) (omega (arith, e.above)) l begun))
              (starts-low g))
              (eq-or-lt_of_le later.0)
            where
              next : end_before c.ends (run + 1) ≡ end_of c run
              next = sym (before-is c.ends {r = run + 1} (λ z. omega arith)) ∙ ap (end_of c) (omega arith)

          pub skipped : (i : ℕ) → index ≤ i → i < upto → first_not_below (sequence_of c) x i end ≡ first_not_below (sequence_of c) x (end_before c.ends r) end
          skipped i a b = first-skip (λ k. not (lt_z (element_at c k) x)) i (end_before c.ends r) end (omega (arith, left, ends)) (omega (arith, begun))
              (λ k u v. ap not (passed i k a u v))

          -- the run r is entered at its start
          pub enters : (first : ℕ) (v : ℤ) → first ≡ end_of c (r - 1) → v ≡ start_of c r → mag v < half64 → Entered c end from r first v
          enters first v is-first is-v m =
              let n : first ≡ end_before c.ends r = is-first ∙ before-is c.ends {r = r} (λ z. omega (arith, later)) in
              record {
                above = omega (arith, e.above, after, left, ends);
                below = omega (arith, begun);
                in-run = rw n (run-in c.ends (end_before c.ends r) s.up r (omega (arith, there)) (le_refl _) (λ l. s.up r l));
                is = rw n (is-v ∙ sym (at_first c s.up r there));
                small = m;
              }
