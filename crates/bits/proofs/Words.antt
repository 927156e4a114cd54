-- Numbers whose digits say what a test says: a byte, eight bytes, and the same with their bits turned. Assumes nothing.
use Prim.Native.Nat.{ℕ, zero, suc, ◌+◌, ◌-◌, ◌*◌, ◌/◌, ◌%◌, ◌^◌, ◌<◌, ◌≤◌, min}
use mathlib.Core.Path.{◌≡◌, refl, sym, ap, ◌∙◌}
use mathlib.Core.Logic.{⊎_elim}
use mathlib.Core.Bool.{Bool, true, false, not}
use mathlib.Core.List.{List}
use native.Mathlib.Omega.{arith}
use lib.Dec.{lit<}
use lib.ListN.{get_or, length, take, drop}
use lib.Seq.{get_or-take, get_or-drop, drop-drop}
use lib.Bits.{bit_and, and_mask}
use lib.Count.{ones}
use mir.Syntax.{w64}
use Rattle.std.specs.Simd.{first_chunks}
use Rattle.std.specs.Int.{from_le_bytes}
use Rattle.std.proofs.Common.{length-take}
use Rattle.std.proofs.lemmas.List.{get_or_past}
use Rattle.std.proofs.lemmas.Nat.Bits.{bit_at-zero, bit_at_cat_low, bit_at_cat_high}
use Rattle.ranges.proofs.Spans.{lt-or-ge}
use Rattle.bits.specs.Bitmap.{is_set, present, count_for}
use Rattle.bits.specs.Word.{byte_at, word_at, sought_at, sought}
use Rattle.bits.proofs.Digits.{set_same, set-off, set-not, masked, count_same, count_cut, count_none, count_ones}

-- the w lowest digits of x are what p says from base on
abbrev pub Shows : (ℕ → Bool) → ℕ → ℕ → ℕ → Type 0
Shows p base w x = (k : ℕ) → k < w → p (base + k) ≡ is_set x k

-- ---- a byte, and a byte in front of others

pub byte-shows : (bs : List ℕ) (j : ℕ) → Shows (present bs) (8 * j) 8 (byte_at bs j)
unfolding present
byte-shows bs j k l =
    let e : (8 * j + k) / 8 ≡ j = omega arith in
    let g : (8 * j + k) % 8 ≡ k = omega arith in
    rw (e, g)

shows-cat : (p : ℕ → Bool) (base after w a m n : ℕ) → a < 256 → after ≡ base + 8 → n ≡ a + m * 256 → Shows p base 8 a → Shows p after w m → Shows p base (8 + w) n
shows-cat p base after w a m n l e g f h k u =
    let cat : n ≡ m * 2 ^ 8 + a = omega arith in
    rw cat
    (⊎_elim
    (λ (v : k < 8). f k v ∙ sym (set_same (m * 2 ^ 8 + a) a k k (bit_at_cat_low m 8 a k v)))
    (λ (v : 8 ≤ k).
    let i : base + k ≡ after + (k - 8) = omega arith in
    ap p i ∙ h (k - 8) (omega arith) ∙ sym (set_same (m * 2 ^ 8 + a) m k (k - 8) (bit_at_cat_high m 8 a k l v)))
    (lt-or-ge k 8))

-- eight bytes
pub word-shows : (bs : List ℕ) (j : ℕ) → ((k : ℕ) → byte_at bs k < 256) → Shows (present bs) (8 * j) 64 (word_at bs j)
word-shows bs j f =
    let n₆ : ℕ = byte_at bs (j + 6) + byte_at bs (j + 7) * 256 in
    let n₅ : ℕ = byte_at bs (j + 5) + n₆ * 256 in
    let n₄ : ℕ = byte_at bs (j + 4) + n₅ * 256 in
    let n₃ : ℕ = byte_at bs (j + 3) + n₄ * 256 in
    let n₂ : ℕ = byte_at bs (j + 2) + n₃ * 256 in
    let n₁ : ℕ = byte_at bs (j + 1) + n₂ * 256 in
    front 56 j (j + 1) n₁ (word_at bs j) refl (omega arith)
    (front 48 (j + 1) (j + 2) n₂ n₁ (omega arith) refl
    (front 40 (j + 2) (j + 3) n₃ n₂ (omega arith) refl
    (front 32 (j + 3) (j + 4) n₄ n₃ (omega arith) refl
    (front 24 (j + 4) (j + 5) n₅ n₄ (omega arith) refl
    (front 16 (j + 5) (j + 6) n₆ n₅ (omega arith) refl
    (front 8 (j + 6) (j + 7) (byte_at bs (j + 7)) n₆ (omega arith) refl (byte-shows bs (j + 7))))))))
  where
    front : (w i k m n : ℕ) → k ≡ i + 1 → n ≡ byte_at bs i + m * 256 → Shows (present bs) (8 * k) w m → Shows (present bs) (8 * i) (8 + w) n
    front w i k m n e g h = shows-cat (present bs) (8 * i) (8 * k) w (byte_at bs i) m n (f i) (omega arith) g (byte-shows bs i) h

pub word_lt : (bs : List ℕ) (j : ℕ) → ((k : ℕ) → byte_at bs k < 256) → word_at bs j < 18446744073709551616
word_lt bs j f = omega (arith, f j, f (j + 1), f (j + 2), f (j + 3), f (j + 4), f (j + 5), f (j + 6), f (j + 7))

-- what is looked for, in eight bytes
pub sought-shows : (here : Bool) (bs : List ℕ) (j : ℕ) → ((k : ℕ) → byte_at bs k < 256) → Shows (sought here bs) (8 * j) 64 (sought_at here bs j)
sought-shows true bs j f k l = word-shows bs j f k l
sought-shows false bs j f k l = ap not (word-shows bs j f k l) ∙ sym (set-not 64 (word_at bs j) k (word_lt bs j f) l)

pub sought-lt : (here : Bool) (bs : List ℕ) (j : ℕ) → ((k : ℕ) → byte_at bs k < 256) → sought_at here bs j < 18446744073709551616
sought-lt true bs j f = word_lt bs j f
sought-lt false bs j f = omega arith

-- ---- counts

-- the ones of a number are the records that it shows
pub count-shown : (p : ℕ → Bool) (base w x r : ℕ) → Shows p base w x → r ≤ w → count_for p base r ≡ ones (x % 2 ^ r)
count-shown p base w x r f l = count_same p (is_set x) r base 0 (λ k m. f k (omega arith) ∙ ap (is_set x) (omega arith)) ∙ count_ones r x

-- those of a word's r lowest digits are the next r records that are present
pub count-more : (bs : List ℕ) (j n r : ℕ) → ((i : ℕ) → byte_at bs i < 256) → r ≤ 64 → n ≡ count_for (present bs) 0 (8 * j)
    → n + ones (word_at bs j % 2 ^ r) ≡ count_for (present bs) 0 (8 * j + r)
count-more bs j n r f l e =
    let z : 0 + 8 * j ≡ 8 * j = omega arith in
    rw (count_cut (present bs) (8 * j) 0 r, z) (omega (arith, count-shown (present bs) (8 * j) 64 (word_at bs j) r (word-shows bs j f) l))

-- eight bytes more
pub count_word : (bs : List ℕ) (k n : ℕ) → ((i : ℕ) → byte_at bs i < 256) → n ≡ count_for (present bs) 0 (64 * k)
    → n + ones (word_at bs (8 * k)) ≡ count_for (present bs) 0 (64 * (k + 1))
count_word bs k n f e =
    let all : word_at bs (8 * k) % 18446744073709551616 ≡ word_at bs (8 * k) = omega (arith, word_lt bs (8 * k) f) in
    let at : 64 * k ≡ 8 * (8 * k) = omega arith in
    let next : 8 * (8 * k) + 64 ≡ 64 * (k + 1) = omega arith in
    rw (all, next) at (count-more bs (8 * k) n 64 f (omega arith) (rw at at e))

-- the k-th of the chunks of eight bytes,
chunk-at : (bs : List ℕ) (n k : ℕ) (d : List ℕ) → k < n → get_or (first_chunks 8 n bs) k d ≡ take 8 (drop (8 * k) bs)
chunk-at bs zero k d l = absurd (omega arith)
chunk-at bs (suc n) zero d l = refl
chunk-at bs (suc n) (suc k) d l =
    let e : 8 + 8 * k ≡ 8 * suc k = omega arith in
    chunk-at (drop 8 bs) n k d (omega arith) ∙ ap (take 8) (drop-drop (8 * k) 8 bs ∙ ap (λ i. drop i bs) e)

-- which is the word at its place
chunk-word : (bs : List ℕ) (n k : ℕ) (d : List ℕ) → k < n → from_le_bytes w64 (get_or (first_chunks 8 n bs) k d) ≡ word_at bs (8 * k)
chunk-word bs n k d l =
    let at : (i : ℕ) → i < 8 → get_or (take 8 (drop (8 * k) bs)) i 0 ≡ get_or bs (8 * k + i) 0 = λ i m. get_or-take 8 (drop (8 * k) bs) i 0 m ∙ get_or-drop (8 * k) bs i 0 in
    let none : 8 * k + 0 ≡ 8 * k = omega arith in
    rw (chunk-at bs n k d l, at 0 (lit< tt), at 1 (lit< tt), at 2 (lit< tt), at 3 (lit< tt), at 4 (lit< tt), at 5 (lit< tt), at 6 (lit< tt), at 7 (lit< tt), none) refl

-- one of the first m chunks more
pub count_chunk : (bs : List ℕ) (m k n r : ℕ) (es : List (List ℕ)) (d : List ℕ) → ((i : ℕ) → byte_at bs i < 256) → es ≡ first_chunks 8 (length bs / 8) bs → length es ≡ length bs / 8
    → k < length (take m es) → r ≡ from_le_bytes w64 (get_or (take m es) k d) → n ≡ count_for (present bs) 0 (64 * k) → n + ones r ≡ count_for (present bs) 0 (64 * (k + 1))
count_chunk bs m k n r es d f is long l e h =
    let word : r ≡ word_at bs (8 * k) =
    e ∙ ap (from_le_bytes w64) (get_or-take m es k d (omega (arith, length-take m es)) ∙ ap (λ (x : List (List ℕ)). get_or x k d) is)
    ∙ chunk-word bs (length bs / 8) k d (omega (arith, long, length-take m es)) in
    rw word (count_word bs k n f h)

pub count-last : (bs : List ℕ) (n whole : ℕ) → ((i : ℕ) → byte_at bs i < 256) → whole ≡ count_for (present bs) 0 (64 * (n / 64))
    → whole + ones (word_at bs (8 * (n / 64)) % 2 ^ (n % 64)) ≡ count_for (present bs) 0 n
count-last bs n whole f e =
    let at : 64 * (n / 64) ≡ 8 * (8 * (n / 64)) = omega arith in
    let all : 8 * (8 * (n / 64)) + n % 64 ≡ n = omega arith in
    rw all at (count-more bs (8 * (n / 64)) whole (n % 64) f (omega arith) (rw at at e))

-- the same, where a mask of the low bits of n takes off what is past it
pub count-rest : (bs : List ℕ) (n whole : ℕ) → ((i : ℕ) → byte_at bs i < 256) → whole ≡ count_for (present bs) 0 (64 * (n / 64))
    → whole + ones (bit_and (word_at bs (8 * (n / 64))) (1 * 2 ^ bit_and n 63 % 18446744073709551616 - 1)) ≡ count_for (present bs) 0 n
count-rest bs n whole f e =
    let low : bit_and n 63 ≡ n % 64 = and_mask n 6 in
    rw (low, masked (word_at bs (8 * (n / 64))) n) (count-last bs n whole f e)

-- ---- past the last byte

pub present-past : (bs : List ℕ) (i : ℕ) → 8 * length bs ≤ i → present bs i ≡ false
unfolding present
present-past bs i l = rw (get_or_past bs (i / 8) 0 (omega arith)) (set-off 0 (i % 8) (bit_at-zero (i % 8)))

pub count_past : (bs : List ℕ) (n m : ℕ) → m ≡ min n (8 * length bs) → count_for (present bs) 0 m ≡ count_for (present bs) 0 n
count_past bs n m e =
    ⊎_elim
    (λ (l : n < 8 * length bs). let s : m ≡ n = omega arith in ap (count_for (present bs) 0) s)
    (λ (l : 8 * length bs ≤ n).
    let s : m + (n - m) ≡ n = omega arith in
    let past : count_for (present bs) (0 + m) (n - m) ≡ 0 = count_none (present bs) (n - m) (0 + m) (λ k u. present-past bs k (omega arith)) in
    sym (ap (count_for (present bs) 0) (sym s) ∙ count_cut (present bs) m 0 (n - m) ∙ omega arith))
    (lt-or-ge n (8 * length bs))
