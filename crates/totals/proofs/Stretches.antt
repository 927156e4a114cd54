-- The elements of a stretch of one run, by their keys. Assumes nothing.
use Prim.Native.Nat.{ℕ, zero, suc, ◌+◌, ◌-◌, ◌*◌, ◌≤◌, ◌<◌, min, max}
use mathlib.Core.Path.{◌≡◌, refl, sym, ap, ◌∙◌, subst⁻¹}
use mathlib.Core.Bool.{true, false}
use mathlib.Core.Logic.{⊎_elim}
use mathlib.Core.List.{[], ◌∷◌, ◌++◌}
use native.Mathlib.Omega.{arith}
use native.Mathlib.Nat.{suc-mul, mul-add, mul_left_comm, mul-le-mul, mul-le-mul_left, zero-add, eq-or-lt_of_le}
use lib.IntN.{ℤ, nat_abs}
use lib.Signed.{mag, nat_abs-le}
use Rattle.ranges.proofs.Bools.{either}
use Rattle.keys.specs.Key.{key, down}
use Rattle.keys.specs.Widths.{fits_in, half64}
use Rattle.keys.proofs.Keys.{key-range, key-up, key-down, step-up, step_down}
use Rattle.keys.proofs.Widths.{in-mag, convex, room-up, room-down}
use borrow.Author.Tests.{ltb-true}
use Rattle.meaning.specs.Column.{offset}
use Rattle.meaning.specs.Sequence.{Sequence, elements_for}
use Rattle.meaning.proofs.Elements.{one_run, elements-more, offset-on}
use Rattle.totals.specs.declared.summing.Sums.{Sums}
use Rattle.totals.specs.Inner.{tri, key_sum, least_key, greatest_key, AllFit, Holds, Spread, add_up, deepest_of, lowest_key}
use Rattle.totals.proofs.Middle.{twice-tri}
use Rattle.totals.proofs.Lists.{keys-parts, least-parts, least-most, greatest-parts, fit_parts}

-- ---- sums of keys a step apart

pub sum-up : (m t n : ℕ) → add_up (λ k. m + t * k) n ≡ n * m + t * tri n
unfolding add_up tri
sum-up m t zero = let z : 0 * m ≡ 0 = omega arith in rw z (omega arith)
sum-up m t (suc n) = rw (sum-up m t n, suc-mul n m, mul-add t (tri n) n) (omega arith)

sum-fall : (a t n : ℕ) → ((k : ℕ) → k < n → t * k ≤ a) → add_up (λ k. a - t * k) n + t * tri n ≡ n * a
unfolding add_up tri
sum-fall a t zero f = let z : 0 * a ≡ 0 = omega arith in rw z (omega arith)
sum-fall a t (suc n) f =
    let l : t * n ≤ a = f n (omega arith) in
    let h : add_up (λ k. a - t * k) n + t * tri n ≡ n * a = sum-fall a t n (λ k u. f k (omega arith)) in
    rw (suc-mul n a, mul-add t (tri n) n) (omega arith)

-- falling from a, with the least m below: the same sum as rising from m
pub sum-down : (a m t n : ℕ) → a ≡ m + t * (n - 1) → add_up (λ k. a - t * k) n ≡ n * m + t * tri n
sum-down a m t n e =
    let f : add_up (λ k. a - t * k) n + t * tri n ≡ n * a = sum-fall a t n (λ k l. let u : t * k ≤ t * (n - 1) = mul-le-mul_left t (omega arith) in omega arith) in
    let g : n * a ≡ n * m + n * (t * (n - 1)) = ap (λ (x : ℕ). n * x) e ∙ mul-add n m (t * (n - 1)) in
    let h : n * (t * (n - 1)) ≡ t * tri n + t * tri n = mul_left_comm n t (n - 1) ∙ ap (λ (x : ℕ). t * x) (sym (twice-tri n)) ∙ mul-add t (tri n) (tri n) in
    omega arith

-- ---- a list by its keys, g k at place k

module _ (q : Sequence) (g : ℕ → ℕ) where
  abbrev Keyed : ℕ → Type 0
  Keyed n = (k : ℕ) → k < n → (mag (q.at k) < half64) × (key half64 (q.at k) ≡ g k)

  last : (n : ℕ) → elements_for q 0 (suc n) ≡ elements_for q 0 n ++ (q.at n ∷ [])
  last n = elements-more q 0 n ∙ ap (λ k. elements_for q 0 n ++ (q.at k ∷ [])) (zero-add n)

  pub keyed-fit : (n : ℕ) → Keyed n → AllFit (elements_for q 0 n)
  unfolding elements_for
  keyed-fit zero f = tt
  keyed-fit (suc n) f = subst⁻¹ (λ xs. AllFit xs) (last n) (fit_parts (elements_for q 0 n) (q.at n ∷ []) (keyed-fit n (λ k l. f k (omega arith))) ((f n (omega arith)).0, tt))

  pub keyed-sum : (n : ℕ) → Keyed n → key_sum (elements_for q 0 n) ≡ add_up g n
  unfolding elements_for key_sum add_up
  keyed-sum zero f = refl
  keyed-sum (suc n) f =
      ap key_sum (last n) ∙ keys-parts (elements_for q 0 n) (q.at n ∷ [])
      ∙ omega (arith, keyed-sum n (λ k l. f k (omega arith)), (f n (omega arith)).1)

  least_more : (n : ℕ) → least_key (elements_for q 0 (suc n)) ≡ min (least_key (elements_for q 0 n)) (min (key half64 (q.at n)) 18446744073709551615)
  unfolding least_key
  least_more n = ap least_key (last n) ∙ least-parts (elements_for q 0 n) (q.at n ∷ []) (least-most (q.at n ∷ []))

  greatest-more : (n : ℕ) → greatest_key (elements_for q 0 (suc n)) ≡ max (greatest_key (elements_for q 0 n)) (max (key half64 (q.at n)) 0)
  unfolding greatest_key
  greatest-more n = ap greatest_key (last n) ∙ greatest-parts (elements_for q 0 n) (q.at n ∷ [])

  least-from : (m n : ℕ) → m ≤ 18446744073709551615 → Keyed n → ((k : ℕ) → k < n → m ≤ g k) → m ≤ least_key (elements_for q 0 n)
  unfolding elements_for least_key
  least-from m zero b f l = b
  least-from m (suc n) b f l = omega (arith, least_more n, least-from m n b (λ k u. f k (omega arith)) (λ k u. l k (omega arith)), (f n (omega arith)).1, l n (omega arith))

  least-to : (n j : ℕ) → Keyed n → j < n → least_key (elements_for q 0 n) ≤ g j
  least-to zero j f u = absurd (omega arith)
  least-to (suc n) j f u = ⊎_elim
      (λ (e : suc j ≡ suc n). let z : j ≡ n = omega arith in rw z (omega (arith, least_more n, (f n (omega arith)).1)))
      (λ (v : suc j < suc n). omega (arith, least_more n, least-to n j (λ k w. f k (omega arith)) (omega arith)))
      (eq-or-lt_of_le u)

  greatest-to : (m n : ℕ) → Keyed n → ((k : ℕ) → k < n → g k ≤ m) → greatest_key (elements_for q 0 n) ≤ m
  unfolding elements_for greatest_key
  greatest-to m zero f l = omega arith
  greatest-to m (suc n) f l = omega (arith, greatest-more n, greatest-to m n (λ k u. f k (omega arith)) (λ k u. l k (omega arith)), (f n (omega arith)).1, l n (omega arith))

  greatest-from : (n j : ℕ) → Keyed n → j < n → g j ≤ greatest_key (elements_for q 0 n)
  greatest-from zero j f u = absurd (omega arith)
  greatest-from (suc n) j f u = ⊎_elim
      (λ (e : suc j ≡ suc n). let z : j ≡ n = omega arith in rw z (omega (arith, greatest-more n, (f n (omega arith)).1)))
      (λ (v : suc j < suc n). omega (arith, greatest-more n, greatest-from n j (λ k w. f k (omega arith)) (omega arith)))
      (eq-or-lt_of_le u)

  -- the least at one place, the greatest at another
  pub keyed-edges : (n i j : ℕ) → g i ≤ 18446744073709551615 → Keyed n → i < n → j < n → ((k : ℕ) → k < n → (g i ≤ g k) × (g k ≤ g j))
      → (g i ≡ least_key (elements_for q 0 n)) × (g j ≡ greatest_key (elements_for q 0 n))
  keyed-edges n i j b f l m h = (
    omega (arith, least-from (g i) n b f (λ k u. (h k u).0), least-to n i f l),
    omega (arith, greatest-to (g j) n f (λ k u. (h k u).1), greatest-from n j f m),
  )

-- ---- n elements of a run, from offset skip on

module _ (start step : ℤ) (skip n : ℕ) (p : mag start < half64) (some : 0 < n) (fit : fits_in half64 (offset start step (skip + n - 1)) ≡ true) where
  abbrev els : Sequence
  els = one_run (offset start step skip) step n

  abbrev t : ℕ
  t = nat_abs step

  at : (k : ℕ) → offset (offset start step skip) step k ≡ offset start step (skip + k)
  at k = sym (offset-on start step skip k)

  fits-at : (k : ℕ) → k < n → mag (offset (offset start step skip) step k) < half64
  fits-at k l =
      ltb-true (mag (offset (offset start step skip) step k)) half64
      (sym (in-mag half64 (offset (offset start step skip) step k)) ∙ ap (fits_in half64) (at k) ∙ convex half64 start step (skip + k) (skip + n - 1) p fit (omega arith))

  inside : (k : ℕ) → k < n → fits_in half64 (offset start step (skip + k)) ≡ true
  inside k l = convex half64 start step (skip + k) (skip + n - 1) p fit (omega arith)

  spaced : (k : ℕ) → t * (skip + k) ≡ t * skip + t * k
  spaced k = mul-add t skip k

  far : (k : ℕ) → k < n → t * k ≤ t * (n - 1)
  far k l = mul-le-mul_left t (omega arith)

  -- rising
  module _ (e : down step ≡ false) where
    abbrev least-up : ℕ
    least-up = key half64 start + t * skip

    up-keys : (k : ℕ) → k < n → (mag (els.at k) < half64) × (key half64 (els.at k) ≡ least-up + t * k)
    up-keys k l = (
      fits-at k l,
      ap (key half64) (at k ∙ step-up start step (skip + k) e) ∙ key-up half64 start (t * (skip + k)) p ∙ omega (arith, spaced k),
    )

    pub up_room : least-up + t * (n - 1) < 18446744073709551616
    up_room =
        let k : skip + n - 1 ≡ skip + (n - 1) = omega arith in
        omega (arith, spaced (n - 1), room-up half64 start step (skip + (n - 1)) p (rw k at fit) e)

    pub up-holds : (s : Sums) → Spread s least-up t n → Holds s (elements_for els 0 n) 1
    up-holds s h =
        let x = keyed-edges els (λ k. least-up + t * k) n 0 (n - 1) (omega (arith, up_room)) up-keys some (omega arith)
        (λ k l. let z : t * 0 ≡ 0 = omega arith in (omega arith, omega (arith, far k l))) in
        record {
          mass = h.mass ∙ sym (keyed-sum els (λ k. least-up + t * k) n up-keys ∙ sum-up least-up t n);
          fits = keyed-fit els (λ k. least-up + t * k) n up-keys;
          within = h.within;
          least-is = h.least-is ∙ (let z : t * 0 ≡ 0 = omega arith in omega arith) ∙ x.0;
          greatest-is = h.greatest-is ∙ x.1;
        }

  -- falling
  module _ (e : down step ≡ true) where
    abbrev greatest-down : ℕ
    greatest-down = key half64 start - t * skip

    pub down-room : t * (skip + n - 1) ≤ key half64 start
    down-room = room-down half64 start step (skip + n - 1) p fit e

    reach : t * skip + t * (n - 1) ≤ key half64 start
    reach = let k : skip + n - 1 ≡ skip + (n - 1) = omega arith in omega (arith, spaced (n - 1), rw k at down-room)

    down-keys : (k : ℕ) → k < n → (mag (els.at k) < half64) × (key half64 (els.at k) ≡ greatest-down - t * k)
    down-keys k l = (
      fits-at k l,
      ap (key half64) (at k ∙ step_down start step (skip + k) e) ∙ key-down half64 start (t * (skip + k)) p (room-down half64 start step (skip + k) p (inside k l) e) ∙ omega (arith, spaced k),
    )

    pub least-down : key half64 start - t * (skip + n - 1) ≡ greatest-down - t * (n - 1)
    least-down = let k : skip + n - 1 ≡ skip + (n - 1) = omega arith in rw k (omega (arith, spaced (n - 1)))

    pub down_top : key half64 start - t * (skip + n - 1) + t * (n - 1) < 18446744073709551616
    down_top = omega (arith, least-down, reach, key-range half64 start p)

    pub down_holds : (s : Sums) → Spread s (key half64 start - t * (skip + n - 1)) t n → Holds s (elements_for els 0 n) 1
    down_holds s h =
        let x = keyed-edges els (λ k. greatest-down - t * k) n (n - 1) 0 (omega (arith, key-range half64 start p)) down-keys (omega arith) some
        (λ k l. let z : t * 0 ≡ 0 = omega arith in (omega (arith, far k l), omega arith)) in
        record {
          mass = h.mass ∙ sym (keyed-sum els (λ k. greatest-down - t * k) n down-keys ∙ sum-down greatest-down (key half64 start - t * (skip + n - 1)) t n (omega (arith, least-down, reach)));
          fits = keyed-fit els (λ k. greatest-down - t * k) n down-keys;
          within = h.within;
          least-is = h.least-is ∙ least-down ∙ x.0;
          greatest-is = h.greatest-is ∙ (let z : t * 0 ≡ 0 = omega arith in omega (arith, least-down, reach)) ∙ x.1;
        }

  -- either way, by the least key
  pub lowest-up : down step ≡ false → lowest_key start step skip n ≡ key half64 start + t * skip
  unfolding lowest_key deepest_of
  lowest-up e = rw e

  pub lowest-down : down step ≡ true → lowest_key start step skip n ≡ key half64 start - t * (skip + n - 1)
  unfolding lowest_key deepest_of
  lowest-down e = rw e

  pub stretch-room : lowest_key start step skip n + t * (n - 1) < 18446744073709551616
  stretch-room = either (down step) (λ e. rw (lowest-down e) (down_top e)) (λ e. rw (lowest-up e) (up_room e))

  pub stretch-holds : (s : Sums) → Spread s (lowest_key start step skip n) t n → Holds s (elements_for els 0 n) 1
  stretch-holds s h = either (down step) (λ e. down_holds e s (rw (lowest-down e) at h)) (λ e. up-holds e s (rw (lowest-up e) at h))

  -- what the calls gave: from, the key of the start; size, the step without its sign; deep, the offset of the least
  module _ (from size deep : ℕ) (is-from : from ≡ key half64 start) (is-size : size ≡ t) (is-deep : deep ≡ deepest_of step skip n) where
    deep-up : down step ≡ false → deep ≡ skip
    unfolding deepest_of
    deep-up e = is-deep ∙ rw e

    deep-down : down step ≡ true → deep ≡ skip + n - 1
    unfolding deepest_of
    deep-down e = is-deep ∙ rw e

    pub way-fits : mag step < 32768 → skip + n ≤ 4294967295 → size * deep < 18446744073709551616
    way-fits m l =
        let d : deep ≤ 4294967295 = either (down step) (λ e. omega (arith, deep-down e)) (λ e. omega (arith, deep-up e)) in
        omega (arith, mul-le-mul (size-most m) d)
      where
        size-most : mag step < 32768 → size ≤ 32768
        size-most m = rw is-size (nat_abs-le step m)

    pub way-below : down step ≡ true → size * deep ≤ from
    way-below e = rw (is-from, is-size, deep-down e) (down-room e)

    pub way_above : down step ≡ false → from + size * deep < 18446744073709551616
    way_above e = rw (is-from, is-size, deep-up e) (omega (arith, up_room e))

    pub low-down : down step ≡ true → from - size * deep ≡ lowest_key start step skip n
    low-down e = rw (is-from, is-size, deep-down e) (sym (lowest-down e))

    pub low_up : down step ≡ false → from + size * deep ≡ lowest_key start step skip n
    low_up e = rw (is-from, is-size, deep-up e) (sym (lowest-up e))

  pub stretch-told : (s : Sums) (low size : ℕ) → low ≡ lowest_key start step skip n → size ≡ t → Spread s low size n → Holds s (elements_for els 0 n) 1
  stretch-told s low size a b h = stretch-holds s (rw (a, b) at h)

  pub told-room : (low size : ℕ) → low ≡ lowest_key start step skip n → size ≡ t → low + size * (n - 1) < 18446744073709551616
  told-room low size a b = rw (a, b) stretch-room

pub deepest-down : (step : ℤ) (skip n : ℕ) → down step ≡ true → skip + n - 1 ≡ deepest_of step skip n
unfolding deepest_of
deepest-down step skip n e = rw e

pub deepest-up : (step : ℤ) (skip n : ℕ) → down step ≡ false → skip ≡ deepest_of step skip n
unfolding deepest_of
deepest-up step skip n e = rw e
