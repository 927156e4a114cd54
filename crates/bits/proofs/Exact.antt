-- A list of bytes is the bitmap of what its digits say, and of nothing else. Assumes nothing.
use Prim.Native.Nat.{ℕ, zero, suc, ◌+◌, ◌*◌, ◌/◌, ◌%◌, ◌^◌, ◌<◌}
use mathlib.Core.Path.{◌≡◌, refl, sym, ap, ◌∙◌}
use mathlib.Core.Bool.{Bool, true, false, cond}
use mathlib.Core.List.{List}
use native.Mathlib.Omega.{arith}
use native.Mathlib.Nat.{pow-suc}
use lib.ListN.{get_or, length, replicate}
use lib.Seq.{ext_get_or}
use Rattle.std.proofs.lemmas.Nat.Bits.{bit_at-zero, same_from_bits_below}
use Rattle.bits.specs.Bitmap.{is_set, present, byte_of, bitmap_of}
use Rattle.bits.proofs.Digits.{digit-of, bit-le, set_next, set_on, set-off}
use Rattle.bits.proofs.Words.{byte-shows}

-- a number by its digits
pub same_digits : (k x y : ℕ) → x < 2 ^ k → y < 2 ^ k → ((m : ℕ) → m < k → is_set x m ≡ is_set y m) → x ≡ y
same_digits k x y l h f = same_from_bits_below k x y l h (λ m u. digit-of x m ∙ ap (λ (t : Bool). cond t 1 0) (f m u) ∙ sym (digit-of y m))

-- ---- the byte that a test makes

module _ (p : ℕ → Bool) where
  pub byte-lt : (k a : ℕ) → byte_of p a k < 2 ^ k
  unfolding byte_of
  byte-lt zero a = omega arith
  byte-lt (suc k) a = omega (arith, bit-le (p a), pow-suc 2 k, byte-lt k (suc a))

  lowest : (t : Bool) (x : ℕ) → is_set (cond t 1 0 + 2 * x) 0 ≡ t
  lowest true x = set_on (1 + 2 * x) 0 (omega arith)
  lowest false x = set-off (0 + 2 * x) 0 (omega arith)

  pub byte-digit : (k a m : ℕ) → m < k → is_set (byte_of p a k) m ≡ p (a + m)
  unfolding byte_of
  byte-digit zero a m l = absurd (omega arith)
  byte-digit (suc k) a zero l = lowest (p a) (byte_of p (suc a) k) ∙ (let e : a ≡ a + 0 = omega arith in ap p e)
  byte-digit (suc k) a (suc m) l =
      let h : (cond (p a) 1 0 + 2 * byte_of p (suc a) k) / 2 ≡ byte_of p (suc a) k = omega (arith, bit-le (p a)) in
      let e : suc a + m ≡ a + suc m = omega arith in
      set_next (cond (p a) 1 0 + 2 * byte_of p (suc a) k) m ∙ ap (λ (x : ℕ). is_set x m) h ∙ byte-digit k (suc a) m (omega arith) ∙ ap p e

  pub bitmap-long : (n a : ℕ) → length (bitmap_of p a n) ≡ n
  unfolding bitmap_of
  bitmap-long zero a = refl
  bitmap-long (suc n) a = ap suc (bitmap-long n (a + 8))

  pub bitmap-at : (n a j : ℕ) → j < n → get_or (bitmap_of p a n) j 0 ≡ byte_of p (a + 8 * j) 8
  unfolding bitmap_of
  bitmap-at zero a j l = absurd (omega arith)
  bitmap-at (suc n) a zero l = let e : a ≡ a + 8 * 0 = omega arith in ap (λ (x : ℕ). byte_of p x 8) e
  bitmap-at (suc n) a (suc j) l = let e : a + 8 + 8 * j ≡ a + 8 * suc j = omega arith in bitmap-at n (a + 8) j (omega arith) ∙ ap (λ (x : ℕ). byte_of p x 8) e

  -- the one list of bytes whose digits say what the test says
  pub bitmap-is : (bs : List ℕ) → ((j : ℕ) → j < length bs → get_or bs j 0 < 256) → ((i : ℕ) → i < 8 * length bs → present bs i ≡ p i) → bs ≡ bitmap_of p 0 (length bs)
  bitmap-is bs f g = ext_get_or 0 bs (bitmap_of p 0 (length bs)) (sym (bitmap-long (length bs) 0))
      (λ j l. same_digits 8 (get_or bs j 0) (byte_of p (8 * j) 8) (f j l) (byte-lt 8 (8 * j))
      (λ m u. sym (byte-shows bs j m u) ∙ g (8 * j + m) (omega arith) ∙ sym (byte-digit 8 (8 * j) m u))
      ∙ (let e : 8 * j ≡ 0 + 8 * j = omega arith in ap (λ (x : ℕ). byte_of p x 8) e) ∙ sym (bitmap-at (length bs) 0 j l))

-- and its digits do say that
pub bitmap-says : (p : ℕ → Bool) (n i : ℕ) → i < 8 * n → present (bitmap_of p 0 n) i ≡ p i
unfolding present
bitmap-says p n i l =
    let e : 0 + 8 * (i / 8) + i % 8 ≡ i = omega arith in
    ap (λ (x : ℕ). is_set x (i % 8)) (bitmap-at p n 0 (i / 8) (omega arith)) ∙ byte-digit p 8 (0 + 8 * (i / 8)) (i % 8) (omega arith) ∙ ap p e

-- ---- nothing is present among zeros

abbrev pub zeros : ℕ → List ℕ
zeros n = replicate n 0

zeros-at : (n j : ℕ) → get_or (zeros n) j 0 ≡ 0
zeros-at zero j = refl
zeros-at (suc n) zero = refl
zeros-at (suc n) (suc j) = zeros-at n j

pub none-present : (n i : ℕ) → present (zeros n) i ≡ false
unfolding present
none-present n i = ap (λ (x : ℕ). is_set x (i % 8)) (zeros-at n (i / 8)) ∙ set-off 0 (i % 8) (bit_at-zero (i % 8))
