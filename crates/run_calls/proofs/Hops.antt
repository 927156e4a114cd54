-- One seek among elements a step apart, of which the last is not below the target: it stays, goes to the next, or by one division. Assumes nothing.
use Prim.Native.Nat.{ℕ, suc, ◌+◌, ◌-◌, ◌/◌, ◌≤◌, ◌<◌}
use mathlib.Core.Path.{◌≡◌, sym, ap, ◌∙◌}
use mathlib.Core.Logic.{⊎_elim}
use mathlib.Core.Bool.{true, false}
use native.Mathlib.Omega.{arith}
use native.Mathlib.Nat.{le_refl}
use native.Mathlib.Numerals.{add-one}
use borrow.Author.Tests.{ltb-true}
use lib.IntN.{ℤ, pos, nat_abs, ◌+ℤ◌, ◌-ℤ◌, ◌*ℤ◌}
use lib.Signed.{lt_z, mag}
use Rattle.ranges.proofs.Bools.{either, clash}
use Rattle.ranges.proofs.Spans.{lt-or-ge}
use Rattle.keys.specs.Key.{key}
use Rattle.keys.specs.Widths.{half64}
use Rattle.keys.proofs.Keys.{lt-key}
use Rattle.keys.proofs.Widths.{apart, product_le, mag-product}
use Rattle.meaning.specs.Column.{offset}
use Rattle.meaning.proofs.Elements.{offset-next}
use Rattle.meaning.proofs.Crossing.{past-start, few-steps, below-target, at_target}
use Rattle.run_calls.specs.Inner.{Hop, Hopped}

-- a step times an offset is an i64
pub product-fits : (d : ℤ) (k : ℕ) → mag d < 32768 → k < 4294967296 → mag (d *ℤ pos k) < half64
product-fits d k p l = omega (arith, mag-product d k, product_le d k 32768 4294967296 p (omega arith))

-- a quotient of numbers that are others
pub quotient-same : {a b d a' b' d' : ℕ} → a ≡ a' → b ≡ b' → d ≡ d' → (a - b - 1) / d + 1 ≡ (a' - b' - 1) / d' + 1
quotient-same ea eb ed = rw (ea, eb, ed)

module _ (base step : ℤ) (at : ℕ) (value x : ℤ) (h : Hop base step at value x) where
  pub stays : lt_z value x ≡ false → Hopped base step at x at value
  stays e = record { above = le_refl _; before = λ k a b. absurd (omega arith); holds = ap (λ z. lt_z z x) (sym h.is) ∙ e; is = h.is }

  -- the element where it stands is below the target
  module _ (low : lt_z value x ≡ true) where
    here : lt_z (offset base step at) x ≡ true
    here = ap (λ z. lt_z z x) (sym h.is) ∙ low

    -- so it is not the last
    pub more : suc at < h.n
    more = ⊎_elim
        (λ (g : suc at < h.n). g)
        (λ (g : h.n ≤ suc at). let e : h.n - 1 ≡ at = omega (arith, h.there) in clash (ap (λ k. lt_z (offset base step k) x) e ∙ here) h.meets)
        (lt-or-ge (suc at) h.n)

    pub up : lt_z (pos 0) step ≡ true
    up = h.strip.steep (omega (arith, more))

    -- the next element
    next-is : value +ℤ step ≡ offset base step (at + 1)
    next-is = ap (λ z. z +ℤ step) h.is ∙ offset-next base step at ∙ ap (offset base step) (sym (add-one at))

    pub next_fits : mag (value +ℤ step) < half64
    next_fits = rw next-is (h.strip.fits (at + 1) (omega (arith, more)))

    pub goes-next : (w : ℤ) → w ≡ value +ℤ step → lt_z w x ≡ false → Hopped base step at x (at + 1) w
    goes-next w e high = record {
      above = omega arith;
      before = λ k a b. let z : k ≡ at = omega arith in ap (λ j. lt_z (offset base step j) x) z ∙ here;
      holds = ap (λ z. lt_z z x) (sym (e ∙ next-is)) ∙ high;
      is = e ∙ next-is;
    }

    -- the first element is below the target, too: the distance from it, by the keys
    pub far : lt_z base x ≡ true
    far = either (lt_z base x) (λ t. t) (λ f. clash here (past-start base step x up at f))

    module _ (p : mag base < half64) (q : mag x < half64) where
      pub keys-rise : key half64 base < key half64 x
      keys-rise = ltb-true (key half64 base) (key half64 x) (sym (lt-key half64 base x p q) ∙ far)

      over-is : pos (key half64 x - key half64 base) ≡ x -ℤ base
      over-is = apart half64 base x p q (omega (arith, keys-rise))

      pub few : (key half64 x - key half64 base - 1) / nat_abs step + 1 ≤ key half64 x - key half64 base
      few = few-steps base step x up (key half64 x - key half64 base) over-is far

      module _ (k : ℕ) (is-k : k ≡ (key half64 x - key half64 base - 1) / nat_abs step + 1) where
        below : (m : ℕ) → m < k → lt_z (offset base step m) x ≡ true
        below = below-target base step x up (key half64 x - key half64 base) over-is far k is-k

        reached : (m : ℕ) → k ≤ m → lt_z (offset base step m) x ≡ false
        reached = at_target base step x up (key half64 x - key half64 base) over-is far k is-k

        pub inside : k < h.n
        inside = ⊎_elim
            (λ (g : k < h.n). g)
            (λ (g : h.n ≤ k). clash (below (h.n - 1) (omega (arith, h.there))) h.meets)
            (lt-or-ge k h.n)

        pub short : k < 4294967296
        short = omega (arith, inside, h.strip.few)

        pub fits : mag (offset base step k) < half64
        fits = h.strip.fits k inside

        pub goes-far : (w : ℤ) → w ≡ offset base step k → Hopped base step at x k w
        goes-far w e = record {
          above = ⊎_elim (λ (g : at < k). omega arith) (λ (g : k ≤ at). clash here (reached at g)) (lt-or-ge at k);
          before = λ m a b. below m b;
          holds = reached k (le_refl _);
          is = e;
        }
