-- Marking a span of records, and a run; what was marked on zeros. Assumes nothing.
use Prim.Native.Nat.{ℕ, ◌+◌, ◌-◌, ◌*◌, ◌/◌, ◌%◌, ◌^◌, ◌≤◌, ◌<◌}
use mathlib.Core.Path.{◌≡◌, refl, ap, ap₂, ◌∙◌, subst, subst⁻¹}
use mathlib.Core.Logic.{⊎_elim}
use mathlib.Core.Bool.{Bool, true, false, not, ◌&&◌, ◌||◌}
use mathlib.Core.List.{List}
use native.Mathlib.Omega.{arith}
use borrow.Author.Tests.{eqb-true, eq-eqb, ne_eqb, ltb-true, leb-true, le-leb, lt-ltb}
use lib.Dec.{eqb, leb, ltb}
use lib.ListN.{get_or, set, length, length-replicate}
use lib.Pow.{pow_mono}
use lib.Bits.{bit_and, and_mask}
use Rattle.ranges.proofs.Bools.{either, clash, same, and_left, and_right, and_both, or-false}
use Rattle.ranges.proofs.Spans.{all-in, not-all-in, lt-or-ge}
use Rattle.bits.specs.Bitmap.{is_set, bitmap_of}
use Rattle.exporting.proofs.Marks.{one_shifted, set_below, set-from, set-and, mark-whole, mark-as, mark-none, mark-both}
use Rattle.bits.proofs.Exact.{bitmap-is, none-present, zeros}
use Rattle.recorded.specs.Inner.{in_steps}
use Rattle.exporting.specs.Inner.{in_span, Marked}

-- ---- spans

or_l : (a b : Bool) → a ≡ true → (a || b) ≡ true
or_l true b e = refl
or_l false b e = clash e refl

or_r : (a b : Bool) → b ≡ true → (a || b) ≡ true
or_r true b e = refl
or_r false b e = e

or_right : (a b : Bool) → (a || b) ≡ true → a ≡ false → b ≡ true
or_right true b h e = clash refl e
or_right false b h e = h

pub both-ways : (x y : Bool) → (x ≡ true → y ≡ true) → (y ≡ true → x ≡ true) → x ≡ y
both-ways x y f g = same x y f (λ t. either y (λ u. clash (g u) t) (λ u. u))

pub span-on : (a e i : ℕ) → a ≤ i → i < e → in_span a e i ≡ true
span-on a e i l m = and_both (leb a i) (ltb i e) (le-leb a i l) (lt-ltb i e m)

pub span-from : (a e i : ℕ) → in_span a e i ≡ true → a ≤ i
span-from a e i h = leb-true a i (and_left (leb a i) (ltb i e) h)

pub span_to : (a e i : ℕ) → in_span a e i ≡ true → i < e
span_to a e i h = ltb-true i e (and_right (leb a i) (ltb i e) h)

-- one whole byte more
pub mark-whole-next : {x y : List ℕ} (from j : ℕ) → from ≤ j → j < length y → Marked x y (in_span (8 * from) (8 * j)) → Marked x (set y j 255) (in_span (8 * from) (8 * (j + 1)))
mark-whole-next {x} {y} from j l h m = mark-as (in_span (8 * from) (8 * (j + 1))) (mark-both m (mark-whole y j h))
    (λ i. both-ways (in_span (8 * from) (8 * j) i || eqb (i / 8) j) (in_span (8 * from) (8 * (j + 1)) i)
    (λ t. either (in_span (8 * from) (8 * j) i)
    (λ u. span-on (8 * from) (8 * (j + 1)) i (span-from (8 * from) (8 * j) i u) (omega (arith, span_to (8 * from) (8 * j) i u)))
    (λ u. let e : i / 8 ≡ j = eqb-true (i / 8) j (or_right (in_span (8 * from) (8 * j) i) (eqb (i / 8) j) t u) in span-on (8 * from) (8 * (j + 1)) i (omega arith) (omega arith)))
    (λ t. ⊎_elim
    (λ (u : i < 8 * j). or_l (in_span (8 * from) (8 * j) i) (eqb (i / 8) j) (span-on (8 * from) (8 * j) i (span-from (8 * from) (8 * (j + 1)) i t) u))
    (λ (u : 8 * j ≤ i). or_r (in_span (8 * from) (8 * j) i) (eqb (i / 8) j) (eq-eqb (i / 8) j (omega (arith, span_to (8 * from) (8 * (j + 1)) i t))))
    (lt-or-ge i (8 * j))))

pub span_none : (x : List ℕ) (a e : ℕ) → e ≤ a → Marked x x (in_span a e)
span_none x a e l = mark-none x (in_span a e) (λ i. either (in_span a e i) (λ t. absurd (omega (arith, span-from a e i t, span_to a e i t))) (λ t. t))

pub mark-whole-none : (x : List ℕ) (from : ℕ) → Marked x x (in_span (8 * from) (8 * from))
mark-whole-none x from = span_none x (8 * from) (8 * from) (omega arith)

-- the tests of the masks at either end
from-mask : (a k : ℕ) → k < 8 → is_set (255 * 2 ^ bit_and a 7 % 256) k ≡ leb (a % 8) k
from-mask a k l = rw (and_mask a 3) (set-from (a % 8) k (omega arith) l)

below-mask : (e k : ℕ) → k < 8 → is_set (1 * 2 ^ bit_and e 7 % 256 - 1) k ≡ ltb k (e % 8)
below-mask e k l = rw (one_shifted e) (set_below (e % 8) k (omega arith) l)

-- in one byte
pub span-byte : {x y : List ℕ} (a e : ℕ) → a / 8 ≡ e / 8
    → Marked x y (λ i. eqb (i / 8) (a / 8) && is_set (bit_and (255 * 2 ^ bit_and a 7 % 256) (1 * 2 ^ bit_and e 7 % 256 - 1)) (i % 8)) → Marked x y (in_span a e)
span-byte a e s m = mark-as (in_span a e) m
    (λ i. ap (λ (t : Bool). eqb (i / 8) (a / 8) && t)
    (set-and (255 * 2 ^ bit_and a 7 % 256) (1 * 2 ^ bit_and e 7 % 256 - 1) (i % 8)
    ∙ ap₂ (λ (t u : Bool). t && u) (from-mask a (i % 8) (omega arith)) (below-mask e (i % 8) (omega arith)))
    ∙ both-ways (eqb (i / 8) (a / 8) && in_span (a % 8) (e % 8) (i % 8)) (in_span a e i)
    (λ t. let h : i / 8 ≡ a / 8 = eqb-true (i / 8) (a / 8) (and_left (eqb (i / 8) (a / 8)) (in_span (a % 8) (e % 8) (i % 8)) t) in
    let r : in_span (a % 8) (e % 8) (i % 8) ≡ true = and_right (eqb (i / 8) (a / 8)) (in_span (a % 8) (e % 8) (i % 8)) t in
    span-on a e i (omega (arith, span-from (a % 8) (e % 8) (i % 8) r)) (omega (arith, span_to (a % 8) (e % 8) (i % 8) r)))
    (λ t. let f : a ≤ i = span-from a e i t in
    let g : i < e = span_to a e i t in
    and_both (eqb (i / 8) (a / 8)) (in_span (a % 8) (e % 8) (i % 8)) (eq-eqb (i / 8) (a / 8) (omega arith)) (span-on (a % 8) (e % 8) (i % 8) (omega arith) (omega arith))))

-- over several: the first byte's end, whole bytes, the last byte's beginning
module _ (a e : ℕ) (apart : a / 8 < e / 8) where
  abbrev t₁ : ℕ → Bool
  t₁ i = eqb (i / 8) (a / 8) && leb (a % 8) (i % 8)

  abbrev t₂ : ℕ → Bool
  t₂ i = in_span (8 * (a / 8 + 1)) (8 * (e / 8)) i

  abbrev t₃ : ℕ → Bool
  t₃ i = eqb (i / 8) (e / 8) && ltb (i % 8) (e % 8)

  two-parts : (i : ℕ) → (t₁ i || t₂ i) ≡ in_span a (8 * (e / 8)) i
  two-parts i = both-ways (t₁ i || t₂ i) (in_span a (8 * (e / 8)) i)
      (λ t. either (t₁ i)
      (λ u. let h : i / 8 ≡ a / 8 = eqb-true (i / 8) (a / 8) (and_left (eqb (i / 8) (a / 8)) (leb (a % 8) (i % 8)) u) in
      span-on a (8 * (e / 8)) i (omega (arith, leb-true (a % 8) (i % 8) (and_right (eqb (i / 8) (a / 8)) (leb (a % 8) (i % 8)) u))) (omega arith))
      (λ u. let r : t₂ i ≡ true = or_right (t₁ i) (t₂ i) t u in
      span-on a (8 * (e / 8)) i (omega (arith, span-from (8 * (a / 8 + 1)) (8 * (e / 8)) i r)) (span_to (8 * (a / 8 + 1)) (8 * (e / 8)) i r)))
      (λ t. let f : a ≤ i = span-from a (8 * (e / 8)) i t in
      let g : i < 8 * (e / 8) = span_to a (8 * (e / 8)) i t in
      ⊎_elim
      (λ (u : i < 8 * (a / 8 + 1)). or_l (t₁ i) (t₂ i) (and_both (eqb (i / 8) (a / 8)) (leb (a % 8) (i % 8)) (eq-eqb (i / 8) (a / 8) (omega arith)) (le-leb (a % 8) (i % 8) (omega arith))))
      (λ (u : 8 * (a / 8 + 1) ≤ i). or_r (t₁ i) (t₂ i) (span-on (8 * (a / 8 + 1)) (8 * (e / 8)) i u g))
      (lt-or-ge i (8 * (a / 8 + 1))))

  three-parts : (i : ℕ) → (in_span a (8 * (e / 8)) i || t₃ i) ≡ in_span a e i
  three-parts i = both-ways (in_span a (8 * (e / 8)) i || t₃ i) (in_span a e i)
      (λ t. either (in_span a (8 * (e / 8)) i)
      (λ u. span-on a e i (span-from a (8 * (e / 8)) i u) (omega (arith, span_to a (8 * (e / 8)) i u)))
      (λ u. let r : t₃ i ≡ true = or_right (in_span a (8 * (e / 8)) i) (t₃ i) t u in
      let h : i / 8 ≡ e / 8 = eqb-true (i / 8) (e / 8) (and_left (eqb (i / 8) (e / 8)) (ltb (i % 8) (e % 8)) r) in
      span-on a e i (omega arith) (omega (arith, ltb-true (i % 8) (e % 8) (and_right (eqb (i / 8) (e / 8)) (ltb (i % 8) (e % 8)) r)))))
      (λ t. let f : a ≤ i = span-from a e i t in
      let g : i < e = span_to a e i t in
      ⊎_elim
      (λ (u : i < 8 * (e / 8)). or_l (in_span a (8 * (e / 8)) i) (t₃ i) (span-on a (8 * (e / 8)) i f u))
      (λ (u : 8 * (e / 8) ≤ i). or_r (in_span a (8 * (e / 8)) i) (t₃ i) (and_both (eqb (i / 8) (e / 8)) (ltb (i % 8) (e % 8)) (eq-eqb (i / 8) (e / 8) (omega arith)) (lt-ltb (i % 8) (e % 8) (omega arith))))
      (lt-or-ge i (8 * (e / 8))))

  module _ {x y z : List ℕ} (m : Marked x y (λ i. eqb (i / 8) (a / 8) && is_set (255 * 2 ^ bit_and a 7 % 256) (i % 8))) (n : Marked y z t₂) where
    pub span-two : Marked x z (in_span a (8 * (e / 8)))
    span-two = mark-as (in_span a (8 * (e / 8)))
        (mark-both (mark-as t₁ m (λ i. ap (λ (t : Bool). eqb (i / 8) (a / 8) && t) (from-mask a (i % 8) (omega arith)))) n) two-parts

    -- nothing in the last byte
    pub span-short : 1 * 2 ^ bit_and e 7 % 256 - 1 ≡ 0 → Marked x z (in_span a e)
    span-short s =
        let h : (8 * (e / 8) ≡ e) = ⊎_elim
        (λ (u : e % 8 < 1). omega arith)
        (λ (u : 1 ≤ e % 8). let w : 2 ^ 1 ≤ 2 ^ (e % 8) = pow_mono u in absurd (omega (arith, one_shifted e)))
        (lt-or-ge (e % 8) 1) in
        rw h at span-two

    pub span-long : {w : List ℕ} → Marked z w (λ i. eqb (i / 8) (e / 8) && is_set (1 * 2 ^ bit_and e 7 % 256 - 1) (i % 8)) → Marked x w (in_span a e)
    span-long k = mark-as (in_span a e)
        (mark-both span-two (mark-as t₃ k (λ i. ap (λ (t : Bool). eqb (i / 8) (e / 8) && t) (below-mask e (i % 8) (omega arith))))) three-parts

-- a mask at the end has a byte
pub span-room : (e n : ℕ) → (1 * 2 ^ bit_and e 7 % 256 - 1 ≡ 0 → ⊥) → e ≤ 8 * n → e / 8 < n
span-room e n s l = ⊎_elim
    (λ (u : e % 8 < 1). let z : e % 8 ≡ 0 = omega arith in absurd (s (ap (λ (x : ℕ). x - 1) (one_shifted e) ∙ ap (λ (x : ℕ). 2 ^ x - 1) z)))
    (λ (u : 1 ≤ e % 8). omega arith)
    (lt-or-ge (e % 8) 1)

-- what was marked on zeros is the bitmap of the test
pub marked-is : (n : ℕ) (new : List ℕ) (p : ℕ → Bool) → Marked (zeros n) new p → ((j : ℕ) → get_or new j 0 < 256) → new ≡ bitmap_of p 0 (length new)
marked-is n new p m f = bitmap-is p new (λ j l. f j) (λ i l. m.each i ∙ ap (λ (t : Bool). p i || t) (none-present n i) ∙ or-false (p i))

-- ---- steps of 1 are a span

steps-one : (start n i : ℕ) → in_span start (start + n) i ≡ in_steps start 1 n i
steps-one start n i = both-ways (in_span start (start + n) i) (in_steps start 1 n i)
    (λ t. let f : start ≤ i = span-from start (start + n) i t in
    let g : i < start + n = span_to start (start + n) i t in
    let e : i ≡ start + 1 * (i - start) = omega arith in
    ap not (not-all-in (λ k. not (eqb i (start + 1 * k))) 0 n (i - start) (omega arith) (omega arith) (ap not (eq-eqb i (start + 1 * (i - start)) e))))
    (λ t. either (in_span start (start + n) i) (λ u. u)
    (λ u. clash t (ap not (all-in (λ k. not (eqb i (start + 1 * k))) 0 n
    (λ k a b. ap not (ne_eqb i (start + 1 * k) (λ e. clash (span-on start (start + n) i (omega arith) (omega arith)) u)))))))

pub mark-ones : {a b : List ℕ} (start n : ℕ) → Marked a b (in_span start (start + n)) → Marked a b (in_steps start 1 n)
mark-ones start n m = mark-as (in_steps start 1 n) m (steps-one start n)

pub mark-run : {a b : List ℕ} (start step n : ℕ) → step ≡ 1 → Marked a b (in_span start (start + n)) → Marked a b (in_steps start step n)
mark-run {a} {b} start step n e m = subst⁻¹ (λ (s : ℕ). Marked a b (in_steps start s n)) e (mark-ones start n m)

pub one-run : (start step n room : ℕ) → step ≡ 1 → start + step * (n - 1) < room → start + n ≤ room
one-run start step n room e h = let g : start + 1 * (n - 1) < room = subst (λ (s : ℕ). start + s * (n - 1) < room) e h in omega arith

-- every byte cleared, then marked
pub written : {mid new : List ℕ} (old : List ℕ) (p : ℕ → Bool) → mid ≡ zeros (length old) → Marked mid new p → ((j : ℕ) → get_or new j 0 < 256) → new ≡ bitmap_of p 0 (length old)
written {mid} {new} old p e m f =
    let k : Marked (zeros (length old)) new p = subst (λ (l : List ℕ). Marked l new p) e m in
    let h : length new ≡ length old = k.long ∙ length-replicate (length old) 0 in
    marked-is (length old) new p k f ∙ ap (bitmap_of p 0) h
