-- The next record that a number shows. Assumes nothing.
use Prim.Native.Nat.{ℕ, ◌+◌, ◌-◌, ◌*◌, ◌/◌, ◌%◌, ◌^◌, ◌≤◌, ◌<◌, min}
use mathlib.Core.Path.{◌≡◌, refl, sym, ap, ◌∙◌}
use mathlib.Core.Logic.{⊎_elim}
use mathlib.Core.List.{List}
use mathlib.Core.Bool.{Bool, false}
use native.Mathlib.Omega.{arith}
use native.Mathlib.Nat.{div-eq_of_lt, lt_of_lt_of_le, pow-le-pow_right}
use lib.Count.{count_trailing_zeros}
use borrow.Author.Numbers.{trailing_lt}
use Rattle.std.proofs.lemmas.Nat.{shr_below}
use Rattle.std.proofs.lemmas.Nat.Bits.{bit_at-zero, bit_at_above}
use Rattle.ranges.specs.Ranges.{first_from}
use Rattle.ranges.proofs.Spans.{first-unique, lt-or-ge}
use Rattle.bits.specs.Word.{byte_at, sought_at, sought, window_at}
use Rattle.bits.specs.Bitmap.{digit}
use Rattle.bits.proofs.Digits.{set_on, set-off, set_shr, trailing-off, trailing-on}
use Rattle.bits.proofs.Words.{Shows, sought-shows, sought-lt}

-- nothing from a on, below b
abbrev pub Nowhere : (ℕ → Bool) → ℕ → ℕ → Type 0
Nowhere p a b = (i : ℕ) → a ≤ i → i < b → p i ≡ false

pub nowhere-more : (p : ℕ → Bool) (a b c : ℕ) → Nowhere p a b → Nowhere p b c → Nowhere p a c
nowhere-more p a b c f g i l h = ⊎_elim (λ (u : i < b). f i l u) (λ (u : b ≤ i). g i u h) (lt-or-ge i b)

-- b is the first where there is none
pub none_first : (p : ℕ → Bool) (a b : ℕ) → a ≤ b → Nowhere p a b → b ≡ first_from p a b
none_first p a b l f = sym (first-unique p a b b l (omega arith) f (λ u. absurd (omega arith)))

-- the n digits of w, z at most, show the records from a on
pub record Ahead (z : ℕ) (p : ℕ → Bool) (a n w : ℕ) : Type 0 where
  pub shows : Shows p a n w
  pub few : n ≤ z
  pub fits : w < 2 ^ n

-- what a shift leaves of them
pub ahead_shr : {z : ℕ} {p : ℕ → Bool} {a n w : ℕ} → Ahead z p a n w → (s : ℕ) → s ≤ n → Ahead z p (a + s) (n - s) (w / 2 ^ s)
ahead_shr {z} {p} {a} {n} {w} h s l = record {
  shows = λ k m.
      let e : a + s + k ≡ a + (s + k) = omega arith in
      ap p e ∙ h.shows (s + k) (omega arith) ∙ set_shr w s k;
  few = omega (arith, h.few);
  fits = let e : n - s + s ≡ n = omega arith in shr_below w (n - s) s (rw e h.fits);
}

-- 0: nothing as far as they go
pub ahead_none : {z : ℕ} {p : ℕ → Bool} {a n w : ℕ} → Ahead z p a n w → w ≡ 0 → (b : ℕ) → b ≤ a + n → Nowhere p a b
ahead_none {z} {p} {a} {n} {w} h e b l i u v =
    let at : i ≡ a + (i - a) = omega arith in
    ap p at ∙ h.shows (i - a) (omega arith) ∙ set-off w (i - a) (rw e (bit_at-zero (i - a)))

-- else its zeros lead to the first
module _ {z : ℕ} {p : ℕ → Bool} {a n w : ℕ} (h : Ahead z p a n w) (some : 0 < w) where
  lowest : digit w (count_trailing_zeros z w) ≡ 1
  lowest = trailing-on z w (trailing_lt z w some (lt_of_lt_of_le h.fits (pow-le-pow_right {n = 2} (omega arith) h.few)))

  pub ahead_in : count_trailing_zeros z w < n
  ahead_in = ⊎_elim (λ (u : count_trailing_zeros z w < n). u)
      (λ (u : n ≤ count_trailing_zeros z w). absurd (omega (arith, lowest, bit_at_above w n (count_trailing_zeros z w) h.fits u)))
      (lt-or-ge (count_trailing_zeros z w) n)

  -- from s on, where nothing lies before them
  pub ahead_first : (s b : ℕ) → s ≤ a → a ≤ b → Nowhere p s a → min (a + count_trailing_zeros z w) b ≡ first_from p s b
  ahead_first s b l m f =
      sym (first-unique p s b (min (a + count_trailing_zeros z w) b) (omega arith) (omega arith)
      (nowhere-more p s a (min (a + count_trailing_zeros z w) b) f (λ i u v.
      let e : i ≡ a + (i - a) = omega arith in
      ap p e ∙ h.shows (i - a) (omega (arith, ahead_in)) ∙ set-off w (i - a) (trailing-off z w (i - a) (omega arith))))
      (λ u.
      let e : min (a + count_trailing_zeros z w) b ≡ a + count_trailing_zeros z w = omega arith in
      ap p e ∙ h.shows (count_trailing_zeros z w) ahead_in ∙ set_on w (count_trailing_zeros z w) lowest))

-- ---- what the bytes show

module _ (here : Bool) (bs : List ℕ) (bytes : (k : ℕ) → byte_at bs k < 256) where
  -- eight bytes
  pub ahead_word : (j w : ℕ) → w ≡ sought_at here bs j → Ahead 64 (sought here bs) (8 * j) 64 w
  ahead_word j w is = rw is (record { shows = sought-shows here bs j bytes; few = omega arith; fits = sought-lt here bs j bytes })

  -- a window
  pub ahead_window : (a w : ℕ) → w ≡ window_at here bs a → Ahead 64 (sought here bs) a (64 - a % 8) w
  ahead_window a w is =
      let e : 8 * (a / 8) + a % 8 ≡ a = omega arith in
      rw is (rw e at (ahead_shr (ahead_word (a / 8) (sought_at here bs (a / 8)) refl) (a % 8) (omega arith)))

-- in a window: the first record from s past its beginning on, where something is left of it
module _ (here : Bool) (bs : List ℕ) (a s rest : ℕ) (bytes : (k : ℕ) → byte_at bs k < 256) (is : rest ≡ window_at here bs a / 2 ^ s) (some : 0 < rest) where
  pub window-in : a % 8 + s < 64
  window-in = ⊎_elim (λ (u : s < 64 - a % 8). omega arith)
      (λ (u : 64 - a % 8 ≤ s). absurd (omega (arith, some, is, div-eq_of_lt (lt_of_lt_of_le (ahead_window here bs bytes a (window_at here bs a) refl).fits (pow-le-pow_right {n = 2} (omega arith) u)))))
      (lt-or-ge s (64 - a % 8))

  left : Ahead 64 (sought here bs) (a + s) (64 - a % 8 - s) rest
  left = rw is (ahead_shr (ahead_window here bs bytes a (window_at here bs a) refl) s (omega (arith, window-in)))

  -- it lies in the window
  pub window-near : a + s + count_trailing_zeros 64 rest < a + 64
  window-near = omega (arith, ahead_in left some, window-in)

  pub window-first : (b : ℕ) → a + 64 ≤ b → a + s + count_trailing_zeros 64 rest ≡ first_from (sought here bs) (a + s) b
  window-first b l =
      let m : min (a + s + count_trailing_zeros 64 rest) b ≡ a + s + count_trailing_zeros 64 rest = omega (arith, window-near) in
      sym m ∙ ahead_first left some (a + s) b (omega arith) (omega (arith, window-in)) (λ i u v. absurd (omega arith))
