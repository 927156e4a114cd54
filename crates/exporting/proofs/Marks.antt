-- Marking records in a bitmap: by a bit, by a mask, by whole bytes. Assumes nothing.
use Prim.Native.Nat.{ℕ, ◌+◌, ◌-◌, ◌*◌, ◌/◌, ◌%◌, ◌^◌, ◌≤◌, ◌<◌}
use mathlib.Core.Path.{◌≡◌, refl, sym, ap, ap₂, ◌∙◌}
use mathlib.Core.Bool.{Bool, true, false, cond, not, ◌&&◌, ◌||◌}
use mathlib.Core.List.{List}
use native.Mathlib.Omega.{arith}
use native.Mathlib.Nat.{mul-add, mul-le-mul_left}
use borrow.Author.Tests.{eqb-true, eqb-false, eq-eqb, le-leb}
use lib.Dec.{eqb, leb, ltb, lit<}
use lib.ListN.{get_or, set, length, length-set}
use lib.Seq.{get_or-set_same, get_or-set_other}
use lib.Pow.{pow-lt}
use lib.Bits.{bit_and, bit_or, and_mask, or_shr, or_mod, and_shr, and_mod}
use Rattle.ranges.specs.Ranges.{all_for, all_in}
use Rattle.ranges.proofs.Bools.{either, clash, same, and_left, and_right, and_both}
use Rattle.ranges.proofs.Spans.{in_all, all-next}
use Rattle.bits.specs.Bitmap.{digit, is_set, present}
use Rattle.std.proofs.lemmas.Nat.Bits.{bit_at-lt}
use Rattle.recorded.specs.Inner.{in_steps}
use Rattle.exporting.specs.Inner.{Marked}

-- ---- a table of tests, computed

abbrev agree : Bool → Bool → Bool
agree a b = cond a b (not b)

agree_same : (a b : Bool) → agree a b ≡ true → a ≡ b
agree_same true true e = refl
agree_same true false e = sym e
agree_same false true e = e
agree_same false false e = refl

table : (f g : ℕ → ℕ → Bool) (m n : ℕ) → all_in (λ i. all_in (λ k. agree (f i k) (g i k)) 0 n) 0 m ≡ true → (i k : ℕ) → i < m → k < n → f i k ≡ g i k
table f g m n h i k l u =
    agree_same (f i k) (g i k) (in_all (λ x. agree (f i x) (g i x)) 0 n (in_all (λ x. all_in (λ y. agree (f x y) (g x y)) 0 n) 0 m h i (omega arith) l) k (omega arith) u)

pub set-power : (i k : ℕ) → i < 8 → k < 8 → is_set (2 ^ i) k ≡ eqb k i
unfolding all_for is_set
set-power = table (λ i k. is_set (2 ^ i) k) (λ i k. eqb k i) 8 8 refl

-- `(1 << e) - 1`
pub set_below : (e k : ℕ) → e < 8 → k < 8 → is_set (2 ^ e - 1) k ≡ ltb k e
unfolding all_for is_set
set_below = table (λ e k. is_set (2 ^ e - 1) k) (λ e k. ltb k e) 8 8 refl

-- `255 << a`
pub set-from : (a k : ℕ) → a < 8 → k < 8 → is_set (255 * 2 ^ a % 256) k ≡ leb a k
unfolding all_for is_set
set-from = table (λ a k. is_set (255 * 2 ^ a % 256) k) (λ a k. leb a k) 8 8 refl

-- ---- digits of `|` and `&`

or_digits : (x y : ℕ) → x < 2 → y < 2 → eqb (bit_or x y) 1 ≡ (eqb x 1 || eqb y 1)
unfolding all_for
or_digits = table (λ x y. eqb (bit_or x y) 1) (λ x y. eqb x 1 || eqb y 1) 2 2 refl

and-digits : (x y : ℕ) → x < 2 → y < 2 → eqb (bit_and x y) 1 ≡ (eqb x 1 && eqb y 1)
unfolding all_for
and-digits = table (λ x y. eqb (bit_and x y) 1) (λ x y. eqb x 1 && eqb y 1) 2 2 refl

pub set-or : (a b k : ℕ) → is_set (bit_or a b) k ≡ (is_set a k || is_set b k)
unfolding is_set
set-or a b k = rw (or_shr a b k, or_mod (a / 2 ^ k) (b / 2 ^ k) 1) (or_digits (digit a k) (digit b k) (bit_at-lt a k) (bit_at-lt b k))

pub set-and : (a b k : ℕ) → is_set (bit_and a b) k ≡ (is_set a k && is_set b k)
unfolding is_set
set-and a b k = rw (and_shr a b k, and_mod (a / 2 ^ k) (b / 2 ^ k) 1) (and-digits (digit a k) (digit b k) (bit_at-lt a k) (bit_at-lt b k))

-- ---- one byte changed

or_swap : (a b : Bool) → (a || b) ≡ (b || a)
or_swap true true = refl
or_swap true false = refl
or_swap false true = refl
or_swap false false = refl

pub present-same : (bs : List ℕ) (j b i : ℕ) → j < length bs → i / 8 ≡ j → present (set bs j b) i ≡ is_set b (i % 8)
unfolding present
present-same bs j b i l e = rw e (ap (λ (x : ℕ). is_set x (i % 8)) (get_or-set_same bs j b 0 l))

pub present-other : (bs : List ℕ) (j b i : ℕ) → (i / 8 ≡ j → ⊥) → present (set bs j b) i ≡ present bs i
unfolding present
present-other bs j b i n = ap (λ (x : ℕ). is_set x (i % 8)) (get_or-set_other bs j (i / 8) b 0 n)

-- byte j takes the ones of a mask
pub mark-byte : (bs : List ℕ) (j m : ℕ) → j < length bs → Marked bs (set bs j (bit_or (get_or bs j 0) m)) (λ i. eqb (i / 8) j && is_set m (i % 8))
unfolding present
mark-byte bs j m l =
    record {
      long = length-set bs j (bit_or (get_or bs j 0) m);
      each = λ i. either (eqb (i / 8) j)
          (λ t. let e : i / 8 ≡ j = eqb-true (i / 8) j t in
          present-same bs j (bit_or (get_or bs j 0) m) i l e ∙ set-or (get_or bs j 0) m (i % 8) ∙ or_swap (is_set (get_or bs j 0) (i % 8)) (is_set m (i % 8))
          ∙ ap₂ (λ (u : Bool) (x : ℕ). (u && is_set m (i % 8)) || is_set (get_or bs x 0) (i % 8)) (sym t) (sym e))
          (λ t. present-other bs j (bit_or (get_or bs j 0) m) i (eqb-false (i / 8) j t) ∙ simp t);
    }

-- byte j becomes all ones
pub mark-whole : (bs : List ℕ) (j : ℕ) → j < length bs → Marked bs (set bs j 255) (λ i. eqb (i / 8) j)
unfolding present
mark-whole bs j l =
    record {
      long = length-set bs j 255;
      each = λ i. either (eqb (i / 8) j)
          (λ t. present-same bs j 255 i l (eqb-true (i / 8) j t) ∙ set-from 0 (i % 8) (lit< tt) (omega arith) ∙ le-leb 0 (i % 8) (omega arith) ∙ simp t)
          (λ t. present-other bs j 255 i (eqb-false (i / 8) j t) ∙ simp t);
    }

-- ---- one test for another, one marking after another

pub mark-as : {a b : List ℕ} {p : ℕ → Bool} (q : ℕ → Bool) → Marked a b p → ((i : ℕ) → p i ≡ q i) → Marked a b q
mark-as {a} {b} {p} q m f = record { long = m.long; each = λ i. m.each i ∙ ap (λ (t : Bool). t || present a i) (f i) }

pub mark-none : (a : List ℕ) (p : ℕ → Bool) → ((i : ℕ) → p i ≡ false) → Marked a a p
mark-none a p f = record { long = refl; each = λ i. ap (λ (t : Bool). t || present a i) (sym (f i)) }

or_assoc : (a b c : Bool) → (a || (b || c)) ≡ ((b || a) || c)
or_assoc true true c = refl
or_assoc true false c = refl
or_assoc false true c = refl
or_assoc false false c = refl

pub mark-both : {a b c : List ℕ} {p q : ℕ → Bool} → Marked a b p → Marked b c q → Marked a c (λ i. p i || q i)
mark-both {a} {b} {c} {p} {q} m n =
    record { long = n.long ∙ m.long; each = λ i. n.each i ∙ ap (λ (t : Bool). q i || t) (m.each i) ∙ or_assoc (q i) (p i) (present a i) }

-- `1 << (i & 7)`
pub one_shifted : (i : ℕ) → 1 * 2 ^ bit_and i 7 % 256 ≡ 2 ^ (i % 8)
one_shifted i =
    let l : i % 8 < 8 = omega arith in
    let h : 2 ^ (i % 8) < 256 = pow-lt l in
    rw (and_mask i 3) (omega arith)

-- ---- one record

pub mark-bit : (bs : List ℕ) (at : ℕ) → at / 8 < length bs → Marked bs (set bs (at / 8) (bit_or (get_or bs (at / 8) 0) (2 ^ (at % 8)))) (λ i. eqb i at)
mark-bit bs at l = mark-as (λ i. eqb i at) (mark-byte bs (at / 8) (2 ^ (at % 8)) l)
    (λ i. ap (λ (t : Bool). eqb (i / 8) (at / 8) && t) (set-power (at % 8) (i % 8) (omega arith) (omega arith))
    ∙ same (eqb (i / 8) (at / 8) && eqb (i % 8) (at % 8)) (eqb i at)
    (λ t. eq-eqb i at (omega (arith, eqb-true (i / 8) (at / 8) (and_left (eqb (i / 8) (at / 8)) (eqb (i % 8) (at % 8)) t), eqb-true (i % 8) (at % 8) (and_right (eqb (i / 8) (at / 8)) (eqb (i % 8) (at % 8)) t))))
    (λ t. either (eqb i at)
    (λ u. let e : i ≡ at = eqb-true i at u in clash (and_both (eqb (i / 8) (at / 8)) (eqb (i % 8) (at % 8)) (eq-eqb (i / 8) (at / 8) (ap (λ (x : ℕ). x / 8) e)) (eq-eqb (i % 8) (at % 8) (ap (λ (x : ℕ). x % 8) e))) t)
    (λ u. u)))

-- one step more
pub mark-step : {a b c : List ℕ} (start step n : ℕ) → Marked a b (in_steps start step n) → Marked b c (λ i. eqb i (start + step * n)) → Marked a c (in_steps start step (n + 1))
mark-step start step n m k = mark-as (in_steps start step (n + 1)) (mark-both m k)
    (λ i. not-and (all_in (λ x. not (eqb i (start + step * x))) 0 n) (eqb i (start + step * n)) ∙ ap not (all-next (λ x. not (eqb i (start + step * x))) 0 n (omega arith)))
  where
    not-and : (x y : Bool) → (not x || y) ≡ not (x && not y)
    not-and true true = refl
    not-and true false = refl
    not-and false y = refl

-- `bytes[at >> 3] |= 1 << (at & 7)`
pub mark-shifted : (bs : List ℕ) (at : ℕ) → at / 8 < length bs → Marked bs (set bs (at / 8) (bit_or (get_or bs (at / 8) 0) (1 * 2 ^ bit_and at 7 % 256))) (λ i. eqb i at)
mark-shifted bs at l = rw (one_shifted at) (mark-bit bs at l)

pub next-at : (start step k : ℕ) → start + step * k + step ≡ start + step * (k + 1)
next-at start step k = rw (mul-add step k 1) (omega arith)

pub last-at : (start step k n : ℕ) → k < n → start + step * k ≤ start + step * (n - 1)
last-at start step k n l =
    let h : step * k ≤ step * (n - 1) = mul-le-mul_left step (omega arith) in
    omega arith
