-- Windows measured one after the other. Assumes nothing.
use Prim.Native.Nat.{ℕ, ◌+◌, ◌*◌, ◌≤◌, ◌<◌}
use mathlib.Core.Path.{◌≡◌, refl, sym, ap, ◌∙◌}
use mathlib.Core.Bool.{true}
use mathlib.Core.List.{List, []}
use native.Mathlib.Omega.{arith}
use native.Mathlib.Numerals.{add-one}
use lib.ListN.{length, get_or, set}
use lib.Seq.{length-sets}
use lib.IntN.{ℤ}
use mir.Syntax.{w64}
use mir.Val.{to_z, of_z, Fits}
use Rattle.keys.specs.Key.{unkey}
use Rattle.keys.specs.Widths.{half64}
use Rattle.meaning.specs.Sequence.{Sequence}
use Rattle.meaning.specs.Parts.{joined, each}
use Rattle.meaning.proofs.Parts.{each_more}
use Rattle.meaning.proofs.Elements.{elements-length}
use Rattle.totals.specs.declared.summing.Sums.{Sums}
use Rattle.totals.specs.Totals.{sum_of, high_of, low_of, has_high}
use Rattle.totals.specs.Windows.{elements_at, elements_over}
use Rattle.totals.specs.Inner.{Holds, sum_in, count_at, least_at, greatest_at, high_at, low_at, Filled}
use Rattle.totals.proofs.Bits.{key_back}
use Rattle.totals.proofs.Lists.{holds-few, holds-sum, few-high, least-most, greatest-most}
use Rattle.totals.proofs.Steps.{Adds}

-- ---- places

pub place-fits : {k : ℕ} → k < 256 → Fits w64 (k * 8)
place-fits l = record { fits = omega arith }

pub next_fits : {k : ℕ} → k < 256 → Fits w64 (k + 1)
next_fits l = record { fits = omega arith }

-- ---- one window

module _ (q : Sequence) (ss es : List ℕ) (k : ℕ) where
  pub count-is : length (elements_at q ss es k) ≡ count_at ss es k
  count-is = elements-length q (get_or ss k 0) (count_at ss es k)

  module _ (s : Sums) (h : Holds s (elements_at q ss es k) 4096) where
    sum_is : (n : ℕ) → n ≡ count_at ss es k → sum_in s n ≡ sum_of (elements_at q ss es k)
    sum_is n e = ap (sum_in s) (e ∙ sym count-is) ∙ holds-sum s (elements_at q ss es k) 4096 h

    pub one-least : (z : ℤ) → z ≡ unkey half64 s.least → to_z w64 (of_z w64 z) ≡ least_at q ss es k
    one-least z e = key_back s.least z e (omega (arith, h.least-is, least-most (elements_at q ss es k))) ∙ ap (unkey half64) h.least-is

    pub one-greatest : (z : ℤ) → z ≡ unkey half64 s.greatest → to_z w64 (of_z w64 z) ≡ greatest_at q ss es k
    one-greatest z e = key_back s.greatest z e (omega (arith, h.greatest-is, greatest-most (elements_at q ss es k) h.fits)) ∙ ap (unkey half64) h.greatest-is

    module _ (n : ℕ) (e : n ≡ count_at ss es k) where
      pub one_has : n ≤ 4294967295 → has_high (sum_in s n) ≡ true
      one_has l = ap has_high (sum_is n e) ∙ few-high (elements_at q ss es k) h.fits (omega (arith, count-is))

      pub one-high : high_of (sum_in s n) ≡ high_at q ss es k
      one-high = ap high_of (sum_is n e)

      pub one-low : low_of (sum_in s n) ≡ low_at q ss es k
      one-low = ap low_of (sum_is n e)

-- ---- the windows below place k

module _ (q : Sequence) (ss es : List ℕ) where
  pub record Measuring (leasts₀ greatests₀ highs₀ : List ℤ) (lows₀ : List ℕ) (leasts greatests highs : List ℤ) (lows : List ℕ) (all : Sums) (k : ℕ) : Type 0 where
    pub to : k ≤ length ss
    pub least : Filled (least_at q ss es) k leasts₀ leasts
    pub greatest : Filled (greatest_at q ss es) k greatests₀ greatests
    pub high : Filled (high_at q ss es) k highs₀ highs
    pub low : Filled (low_at q ss es) k lows₀ lows
    pub holds : Holds all (joined (elements_at q ss es) k) (4096 * k)

  pub measuring-start : (a b c : List ℤ) (d : List ℕ) (all : Sums) → Holds all [] 0 → Measuring a b c d a b c d all 0
  unfolding joined
  measuring-start a b c d all h = record { to = omega arith; least = refl; greatest = refl; high = refl; low = refl; holds = h }

  module _ (a b c : List ℤ) (d : List ℕ) (le gr hi : List ℤ) (lo : List ℕ) (all : Sums) (k : ℕ) (h : Measuring a b c d le gr hi lo all k) where
    pub least-long : length le ≡ length a
    least-long = ap length h.least ∙ length-sets a 0 (each (least_at q ss es) k)

    pub greatest-long : length gr ≡ length b
    greatest-long = ap length h.greatest ∙ length-sets b 0 (each (greatest_at q ss es) k)

    pub high-long : length hi ≡ length c
    high-long = ap length h.high ∙ length-sets c 0 (each (high_at q ss es) k)

    pub low-long : length lo ≡ length d
    low-long = ap length h.low ∙ length-sets d 0 (each (low_at q ss es) k)

    pub measuring-more : k < length ss → (v w x : ℤ) (y : ℕ) (s t : Sums) → v ≡ least_at q ss es k → w ≡ greatest_at q ss es k → x ≡ high_at q ss es k → y ≡ low_at q ss es k
        → Holds s (elements_at q ss es k) 4096 → Adds all s t → Measuring a b c d (set le k v) (set gr k w) (set hi k x) (set lo k y) t (k + 1)
    unfolding joined
    measuring-more l v w x y s t ev ew ex ey hs adds = record {
      to = omega arith;
      least = each_more (least_at q ss es) le a k v h.least ev;
      greatest = each_more (greatest_at q ss es) gr b k w h.greatest ew;
      high = each_more (high_at q ss es) hi c k x h.high ex;
      low = each_more (low_at q ss es) lo d k y h.low ey;
      holds = rw (add-one k) (holds-few t _ (4096 * k + 4096) _ (omega arith) (adds (joined (elements_at q ss es) k) (elements_at q ss es k) (4096 * k) 4096 h.holds hs));
    }

    pub measuring-done : length ss ≡ k → length ss ≤ 256
        → Holds all (elements_over q ss es) 1048576 × (Filled (least_at q ss es) (length ss) a le × (Filled (greatest_at q ss es) (length ss) b gr
        × (Filled (high_at q ss es) (length ss) c hi × Filled (low_at q ss es) (length ss) d lo)))
    measuring-done e l = rw e (holds-few all (joined (elements_at q ss es) k) (4096 * k) 1048576 (omega arith) h.holds, (h.least, (h.greatest, (h.high, h.low))))
