-- The digits of a number as tests, and counts of a test. Assumes nothing.
use Prim.Native.Nat.{ℕ, zero, suc, ◌+◌, ◌-◌, ◌*◌, ◌/◌, ◌%◌, ◌^◌, ◌≤◌, ◌<◌}
use mathlib.Core.Path.{◌≡◌, refl, sym, ap, ap₂, ◌∙◌}
use mathlib.Core.Bool.{Bool, true, false, cond, not}
use native.Mathlib.Omega.{arith}
use native.Mathlib.Nat.{mod-lt, pow-suc}
use native.Mathlib.Numerals.{add-one}
use lib.Bits.{bit_and, and_mask}
use lib.Count.{ones, ones_step, count_trailing_zeros, under}
use lib.Dec.{eqb, lit<}
use lib.Pow.{field, mod-mod-pow, pow_pos}
use Rattle.std.proofs.lemmas.Nat.{one_shl, shr-shr}
use Rattle.std.proofs.lemmas.Nat.Bits.{bit_at-lt, bit_at-suc}
use Rattle.bits.specs.Bitmap.{digit, is_set, count_for}

-- ---- one digit

pub set_on : (n k : ℕ) → digit n k ≡ 1 → is_set n k ≡ true
unfolding is_set
set_on n k e = rw e

pub set-off : (n k : ℕ) → digit n k ≡ 0 → is_set n k ≡ false
unfolding is_set
set-off n k e = rw e

pub set_same : (n m k l : ℕ) → digit n k ≡ digit m l → is_set n k ≡ is_set m l
unfolding is_set
set_same n m k l e = rw e

pub digit-of : (n k : ℕ) → digit n k ≡ cond (is_set n k) 1 0
unfolding is_set
digit-of n k = by (digit n k) (bit_at-lt n k)
  where
    by : (d : ℕ) → d < 2 → d ≡ cond (eqb d 1) 1 0
    by zero l = refl
    by (suc zero) l = refl
    by (suc (suc d)) l = absurd (omega arith)

pub set_next : (n k : ℕ) → is_set n (suc k) ≡ is_set (n / 2) k
set_next n k = set_same n (n / 2) (suc k) k (bit_at-suc n k)

-- a shift takes digits off below
pub set_shr : (n k m : ℕ) → is_set n (k + m) ≡ is_set (n / 2 ^ k) m
set_shr n k m = set_same n (n / 2 ^ k) (k + m) m (ap (λ (x : ℕ). x % 2) (sym (shr-shr n k m)))

-- the digits of what is left of all ones are the opposite, over any number w of them
pub set-not : (w x k : ℕ) → x < 2 ^ w → k < w → is_set (2 ^ w - 1 - x) k ≡ not (is_set x k)
set-not zero x k l m = absurd (omega arith)
set-not (suc w) x zero l m = go (x % 2) refl (mod-lt x (lit< {m = 0} {n = 2} tt))
  where
    go : (d : ℕ) → x % 2 ≡ d → d < 2 → is_set (2 ^ suc w - 1 - x) 0 ≡ not (is_set x 0)
    go zero e h = set_on (2 ^ suc w - 1 - x) 0 (omega (arith, pow-suc 2 w, pow_pos w)) ∙ sym (ap not (set-off x 0 (omega arith)))
    go (suc zero) e h = set-off (2 ^ suc w - 1 - x) 0 (omega (arith, pow-suc 2 w, pow_pos w)) ∙ sym (ap not (set_on x 0 (omega arith)))
    go (suc (suc d)) e h = absurd (omega arith)
set-not (suc w) x (suc k) l m =
    let e : (2 ^ suc w - 1 - x) / 2 ≡ 2 ^ w - 1 - x / 2 = omega (arith, pow-suc 2 w, pow_pos w) in
    set_next (2 ^ suc w - 1 - x) k ∙ ap (λ (y : ℕ). is_set y k) e ∙ set-not w (x / 2) k (omega (arith, pow-suc 2 w)) (omega arith) ∙ sym (ap not (set_next x k))

-- the mask `(1 << (n % 64)) - 1` leaves the digits below n
pub masked : (x n : ℕ) → bit_and x (1 * 2 ^ (n % 64) % 18446744073709551616 - 1) ≡ x % 2 ^ (n % 64)
masked x n = rw (one_shl (n % 64) 64 (omega arith)) (and_mask x (n % 64))

-- ---- the zeros below the lowest one, over any number k of digits

-- each digit below is 0,
pub trailing-off : (k n j : ℕ) → j < count_trailing_zeros k n → digit n j ≡ 0
unfolding count_trailing_zeros
trailing-off zero n j l = absurd (omega arith)
trailing-off (suc k) n j l = go j (n % 2) refl l (λ i m. trailing-off k (n / 2) i m)
  where
    go : (i d : ℕ) → n % 2 ≡ d → i < under d (count_trailing_zeros k (n / 2)) → ((x : ℕ) → x < count_trailing_zeros k (n / 2) → digit (n / 2) x ≡ 0) → digit n i ≡ 0
    go zero zero e m f = omega arith
    go (suc i) zero e m f = bit_at-suc n i ∙ f i (omega arith)
    go i (suc d) e m f = absurd (omega arith)

-- and where there are fewer than all, the next one is 1
pub trailing-on : (k n : ℕ) → count_trailing_zeros k n < k → digit n (count_trailing_zeros k n) ≡ 1
unfolding count_trailing_zeros
trailing-on zero n l = absurd (omega arith)
trailing-on (suc k) n l = go (n % 2) refl l (trailing-on k (n / 2))
  where
    go : (d : ℕ) → n % 2 ≡ d → under d (count_trailing_zeros k (n / 2)) < suc k
        → (count_trailing_zeros k (n / 2) < k → digit (n / 2) (count_trailing_zeros k (n / 2)) ≡ 1) → digit n (under d (count_trailing_zeros k (n / 2))) ≡ 1
    go zero e m f = bit_at-suc n (count_trailing_zeros k (n / 2)) ∙ f (omega arith)
    go (suc d) e m f = omega (arith, mod-lt n (lit< {m = 0} {n = 2} tt))

-- ---- counts

pub count_same : (p q : ℕ → Bool) (n a b : ℕ) → ((k : ℕ) → k < n → p (a + k) ≡ q (b + k)) → count_for p a n ≡ count_for q b n
unfolding count_for
count_same p q zero a b f = refl
count_same p q (suc n) a b f =
    let e : p a ≡ q b = ap p (omega arith) ∙ f 0 (omega arith) ∙ ap q (omega arith) in
    let r : count_for p (suc a) n ≡ count_for q (suc b) n =
    count_same p q n (suc a) (suc b) (λ k l. ap p (omega arith) ∙ f (suc k) (omega arith) ∙ ap q (omega arith)) in
    ap₂ (λ (t : Bool) (m : ℕ). cond t 1 0 + m) e r

pub count_cut : (p : ℕ → Bool) (m a n : ℕ) → count_for p a (m + n) ≡ count_for p a m + count_for p (a + m) n
unfolding count_for
count_cut p zero a n =
    let e : zero + n ≡ n = omega arith in
    let g : a + zero ≡ a = omega arith in
    rw (e, g) (omega arith)
count_cut p (suc m) a n =
    let e : suc m + n ≡ suc (m + n) = omega arith in
    let g : suc a + m ≡ a + suc m = omega arith in
    let h : count_for p (suc a) (m + n) ≡ count_for p (suc a) m + count_for p (a + suc m) n = count_cut p m (suc a) n ∙ ap (λ (x : ℕ). count_for p (suc a) m + count_for p x n) g in
    rw e (omega arith)

pub bit-le : (t : Bool) → cond t 1 0 ≤ 1
bit-le true = omega arith
bit-le false = omega arith

pub count_le : (p : ℕ → Bool) (a n : ℕ) → count_for p a n ≤ n
unfolding count_for
count_le p a zero = omega arith
count_le p a (suc n) = omega (arith, bit-le (p a), count_le p (suc a) n)

pub count_none : (p : ℕ → Bool) (n a : ℕ) → ((k : ℕ) → a ≤ k → p k ≡ false) → count_for p a n ≡ 0
unfolding count_for
count_none p zero a f = refl
count_none p (suc n) a f = rw (f a (omega arith)) (omega (arith, count_none p n (suc a) (λ k l. f k (omega arith))))

-- the digits below n that are set: the ones of what a mask leaves
pub count_ones : (n x : ℕ) → count_for (is_set x) 0 n ≡ ones (x % 2 ^ n)
unfolding count_for ones
count_ones zero x = let e : x % 1 ≡ 0 = omega arith in rw e
count_ones (suc n) x =
    let low : x % 2 ^ suc n % 2 ≡ x % 2 = rw (add-one n) at (mod-mod-pow x n 1) in
    let high : x % 2 ^ suc n / 2 ≡ x / 2 % 2 ^ n = rw (add-one n) at (field x n 1) in
    let lowest : cond (is_set x 0) 1 0 ≡ x % 2 = sym (digit-of x 0) ∙ omega arith in
    let rest : count_for (is_set x) 1 n ≡ ones (x / 2 % 2 ^ n) =
    count_same (is_set x) (is_set (x / 2)) n 1 0 (λ k l. ap (is_set x) (omega arith) ∙ set_next x k ∙ ap (is_set (x / 2)) (omega arith)) ∙ count_ones n (x / 2) in
    sym (ones_step (x % 2 ^ suc n) ∙ ap₂ (λ a b. a + ones b) low high ∙ ap₂ (λ a b. a + b) (sym lowest) (sym rest))
