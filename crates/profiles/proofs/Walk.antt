-- A walk over the runs of a column: what is counted and what is written below a run's floor. Assumes nothing.
use Prim.Native.Nat.{ℕ, zero, suc, ◌+◌, ◌*◌, ◌-◌, ◌≤◌, ◌<◌}
use mathlib.Core.Path.{◌≡◌, sym, ap, ap₂, ◌∙◌}
use mathlib.Core.Logic.{⊎_elim}
use mathlib.Core.Bool.{Bool, true, not}
use mathlib.Core.List.{[], ◌++◌}
use native.Mathlib.Numerals.{add-one}
use native.Mathlib.Omega.{arith}
use native.Mathlib.Nat.{le_refl}
use lib.ListN.{length, length-append}
use Rattle.ranges.proofs.Bools.{either}
use Rattle.ranges.proofs.Spans.{lt-or-ge}
use Rattle.meaning.specs.Column.{Column, runs, sequence_of}
use Rattle.meaning.proofs.Parts.{each-length}
use Rattle.bits.specs.Bitmap.{count_for}
use Rattle.bits.proofs.Next.{Nowhere}
use Rattle.recorded.specs.Records.{carries_record}
use Rattle.recorded.specs.Inner.{floor_of}
use Rattle.profiles.specs.Profiles.{numbers_in}
use Rattle.profiles.specs.Inner.{Fits, Strip, Ahead, Covers, nearest, stepped, beyond_of, past_of}
use Rattle.profiles.proofs.Numbers.{numbers-length, numbers-parts, numbers-same, numbers-end, numbers-all, strip-numbers, strip-after, strip-empty, strip-others}
use Rattle.profiles.proofs.Filling.{past-some, past-none, beyond-some, beyond-none}
use Rattle.profiles.proofs.Strips.{edge-first, edges-rise, edge-last}

-- never more than there are numbers
pub count-few : (p : ℕ → Bool) (n a : ℕ) → count_for p a n ≤ n
unfolding count_for
count-few p zero a = omega arith
count-few p (suc n) a = either (p a) (λ t. rw t (omega (arith, count-few p n (suc a)))) (λ t. rw t (omega (arith, count-few p n (suc a))))

near-most : (from to x : ℕ) → from ≤ to → (from ≤ nearest from to x) × (nearest from to x ≤ to)
near-most from to x l = (omega arith, omega arith)

-- all others are written up to `at`, and there is no element from there to run r's floor
pub record Others (c : Column) (from to r at : ℕ) : Type 0 where
  pub since : from ≤ at
  pub until : at ≤ nearest from to (floor_of c r)
  pub none : Nowhere (carries_record (sequence_of c)) at (nearest from to (floor_of c r))

pub there-to : (c : Column) (from to r at : ℕ) → from ≤ to → Others c from to r at → at ≤ to
there-to c from to r at l o = omega (arith, o.until, (near-most from to (floor_of c r) l).1)

module _ (c : Column) (count : ℕ) (fits : Fits c count) (from to : ℕ) (order : from ≤ to) where
  abbrev p : ℕ → Bool
  p = carries_record (sequence_of c)

  abbrev edge : ℕ → ℕ
  edge r = nearest from to (floor_of c r)

  -- ---- elements

  -- none below the floor of the window's first run
  pub elements-none : (begin stop : ℕ) → Covers c.starts from to begin stop → numbers_in p from (edge begin) ≡ []
  elements-none begin stop w = ap (numbers_in p from) (edge-first c count fits from to begin stop w order) ∙ numbers-same p from

  -- one run more
  pub elements-next : (r v s m : ℕ) → r < runs c → Strip p (edge r) (edge (suc r)) v s m → numbers_in p from (edge r) ++ stepped v s m ≡ numbers_in p from (edge (r + 1))
  elements-next r v s m l h =
      ap (λ x. numbers_in p from (edge r) ++ x) (sym (strip-numbers p h))
      ∙ sym (numbers-parts p from (edge r) (edge (suc r)) (near-most from to (floor_of c r) order).0 (edges-rise c count fits from to r l))
      ∙ ap (λ x. numbers_in p from (edge x)) (sym (add-one r))

  -- and none past the last
  pub elements-done : (begin stop : ℕ) → Covers c.starts from to begin stop → numbers_in p from (edge stop) ≡ numbers_in p from to
  elements-done begin stop w = let n = near-most from to (floor_of c stop) order in numbers-end p from (edge stop) to n.0 n.1 (edge-last c count fits from to begin stop w)

  -- never more than all
  pub elements-most : (r : ℕ) → length (numbers_in p from (edge r)) ≤ length (numbers_in p from to)
  elements-most r =
      let w = near-most from to (floor_of c r) order in
      omega (arith, ap length (numbers-parts p from (edge r) to w.0 w.1) ∙ length-append (numbers_in p from (edge r)) (numbers_in p (edge r) to))

  -- there is room for it
  pub elements-room : (r v s m : ℕ) → r < runs c → Strip p (edge r) (edge (suc r)) v s m → length (numbers_in p from (edge r)) + m ≤ length (numbers_in p from to)
  elements-room r v s m l h =
      let a : length (numbers_in p from (edge r)) + m ≡ length (numbers_in p from (edge (suc r))) =
      ap (λ x. length (numbers_in p from (edge r)) + x) (sym (each-length (λ k. v + s * k) m)) ∙ sym (length-append (numbers_in p from (edge r)) (stepped v s m))
      ∙ ap length (elements-next r v s m l h) ∙ ap (λ x. length (numbers_in p from (edge x))) (add-one r) in
      rw a (elements-most (suc r))

  -- ---- their number

  counted : (x : ℕ) → count_for p from (x - from) ≡ length (numbers_in p from x)
  counted x = sym (numbers-length p (x - from) from)

  pub count_none : (begin stop : ℕ) → Covers c.starts from to begin stop → 0 ≡ count_for p from (edge begin - from)
  count_none begin stop w = sym (counted (edge begin) ∙ ap length (elements-none begin stop w))

  pub count_next : (r : ℕ) → r < runs c → (sum v s m : ℕ) → sum ≡ count_for p from (edge r - from) → Strip p (edge r) (edge (suc r)) v s m
      → sum + m ≡ count_for p from (edge (r + 1) - from)
  count_next r l sum v s m e h =
      ap₂ (λ x y. x + y) (e ∙ counted (edge r)) (sym (each-length (λ k. v + s * k) m))
      ∙ sym (length-append (numbers_in p from (edge r)) (stepped v s m))
      ∙ ap length (elements-next r v s m l h) ∙ sym (counted (edge (r + 1)))

  pub count-done : (begin stop : ℕ) → Covers c.starts from to begin stop → count_for p from (edge stop - from) ≡ count_for p from (to - from)
  count-done begin stop w = counted (edge stop) ∙ ap length (elements-done begin stop w) ∙ sym (counted to)

  -- ---- the others

  abbrev others : ℕ → Bool
  others i = not (p i)

  pub others-first : (begin stop : ℕ) → Covers c.starts from to begin stop → Others c from to begin from
  others-first begin stop w = let e = edge-first c count fits from to begin stop w order in record { since = le_refl from; until = omega (arith, e); none = λ i l m. absurd (omega (arith, e)) }

  pub others-most : (r at : ℕ) → Others c from to r at → length (numbers_in others from at) ≤ length (numbers_in others from to)
  others-most r at o = omega (arith, ap length (numbers-parts others from at to o.since (there-to c from to r at order o)) ∙ length-append (numbers_in others from at) (numbers_in others at to))

  module _ (r at v s m : ℕ) (l : r < runs c) (o : Others c from to r at) (h : Strip p (edge r) (edge (suc r)) v s m) where
    up : edge r ≤ edge (suc r)
    up = edges-rise c count fits from to r l

    most : edge (suc r) ≤ to
    most = (near-most from to (floor_of c (suc r)) order).1

    pub others-ahead : to ≤ count → Ahead at v s m
    others-ahead t = record {
      above = λ some. omega (arith, o.until, h.inside some);
      last = λ some. omega (arith, h.inside some, most, fits.few);
      up = h.up;
    }

    after : at ≤ beyond_of at v s m
    after = ⊎_elim
        (λ (u : m < 1). omega (arith, beyond-none at v s m (omega arith)))
        (λ (u : 1 ≤ m). omega (arith, beyond-some at v s m u, o.until, h.inside u))
        (lt-or-ge m 1)

    before : beyond_of at v s m ≤ edge (suc r)
    before = ⊎_elim
        (λ (u : m < 1). omega (arith, beyond-none at v s m (omega arith), o.until, up))
        (λ (u : 1 ≤ m). omega (arith, beyond-some at v s m u, h.inside u))
        (lt-or-ge m 1)

    clear : Nowhere p (beyond_of at v s m) (edge (suc r))
    clear i a b = ⊎_elim
        (λ (u : m < 1). let e : m ≡ 0 = omega arith in
        let w : at ≤ i = omega (arith, beyond-none at v s m e) in
        ⊎_elim (λ (t : i < edge r). o.none i w t) (λ (t : edge r ≤ i). strip-empty p h e i t b) (lt-or-ge i (edge r)))
        (λ (u : 1 ≤ m). strip-after p h u i (omega (arith, beyond-some at v s m u)) b)
        (lt-or-ge m 1)

    pub others-next : Others c from to (r + 1) (beyond_of at v s m)
    others-next = let e : edge (suc r) ≡ edge (r + 1) = ap edge (sym (add-one r)) in
        record { since = omega (arith, o.since, after); until = omega (arith, e, before); none = λ i a b. clear i a (omega (arith, e)) }

    here : numbers_in others at (beyond_of at v s m) ≡ past_of at v s m
    here = ⊎_elim
        (λ (u : m < 1). let e : m ≡ 0 = omega arith in ap (numbers_in others at) (beyond-none at v s m e) ∙ numbers-same others at ∙ sym (past-none at v s m e))
        (λ (u : 1 ≤ m). ap (numbers_in others at) (beyond-some at v s m u) ∙ strip-others p h at o.until o.none u ∙ sym (past-some at v s m u))
        (lt-or-ge m 1)

    pub others-joined : numbers_in others from at ++ past_of at v s m ≡ numbers_in others from (beyond_of at v s m)
    others-joined = ap (λ x. numbers_in others from at ++ x) (sym here) ∙ sym (numbers-parts others from at (beyond_of at v s m) o.since after)

    pub others-room : length (numbers_in others from at) + length (past_of at v s m) ≤ length (numbers_in others from to)
    others-room = omega (
      arith,
      sym (length-append (numbers_in others from at) (past_of at v s m)) ∙ ap length others-joined,
      ap length (numbers-parts others from (beyond_of at v s m) to (omega (arith, o.since, after)) (omega (arith, before, most)))
          ∙ length-append (numbers_in others from (beyond_of at v s m)) (numbers_in others (beyond_of at v s m) to),
    )

  -- past the last run, to the window's end
  module _ (begin stop : ℕ) (w : Covers c.starts from to begin stop) (at : ℕ) (o : Others c from to stop at) where
    within : at ≤ to
    within = omega (arith, o.until, (near-most from to (floor_of c stop) order).1)

    lacking : (i : ℕ) → at ≤ i → i < to → others i ≡ true
    lacking i a b = ⊎_elim
        (λ (t : i < edge stop). ap not (o.none i a t))
        (λ (t : edge stop ≤ i). ap not (edge-last c count fits from to begin stop w i t b))
        (lt-or-ge i (edge stop))

    pub others-end : numbers_in others from at ++ stepped at 1 (to - at) ≡ numbers_in others from to
    others-end = ap (λ x. numbers_in others from at ++ x) (sym (numbers-all others at to lacking)) ∙ sym (numbers-parts others from at to o.since within)

    pub others-rest : length (numbers_in others from at) + (to - at) ≡ length (numbers_in others from to)
    others-rest =
        ap (λ x. length (numbers_in others from at) + x) (sym (each-length (λ k. at + 1 * k) (to - at)))
        ∙ sym (length-append (numbers_in others from at) (stepped at 1 (to - at))) ∙ ap length others-end
