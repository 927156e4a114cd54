-- The laws of a number's bytes and of two's complement, over the number of bytes. Assumes nothing.
use Prim.Native.Nat.{ℕ, zero, suc, ◌+◌, ◌-◌, ◌*◌, ◌/◌, ◌%◌, ◌^◌, ◌≤◌, ◌<◌}
use mathlib.Core.Path.{◌≡◌, refl, sym, ap, ◌∙◌}
use mathlib.Core.Bool.{Bool, true, false, cond}
use mathlib.Core.List.{List, [], ◌∷◌, ◌++◌}
use native.Mathlib.Omega.{arith}
use native.Mathlib.Nat.{pow-suc, pow-le-pow_right}
use borrow.Author.Tests.{lt-ltb, le-ltb, ltb-true, ltb-false}
use lib.Dec.{ltb}
use lib.ListN.{length, take, drop, get_or, length-drop, length-take, get_or-eq_default}
use lib.Seq.{drop-cons, length-take-le, get_or-take, get_or-drop, take-add, drop-drop}
use lib.IntN.{ℤ, pos, negsuc}
use lib.Signed.{mag}
use Rattle.ranges.proofs.Bools.{either}
use Rattle.codec.specs.Bytes.{le_val, le_bytes, to_signed, of_signed, decode, encode, bytes_at}

-- each element is a byte
abbrev pub Bytes : List ℕ → Type 0
Bytes bs = (i : ℕ) → get_or bs i 0 < 256

-- ---- the bytes of a number

pub pow-up : (j k : ℕ) → j ≤ k → 256 ^ j ≤ 256 ^ k
pow-up j k h = pow-le-pow_right {n = 256} (omega arith) h

pub le_val-lt : (bs : List ℕ) (k : ℕ) → length bs ≤ k → Bytes bs → le_val bs < 256 ^ k
unfolding le_val
le_val-lt [] k l h = pow-up 0 k (omega arith)
le_val-lt (b ∷ bs) zero l h = omega arith
le_val-lt (b ∷ bs) (suc k) l h = rw (pow-suc 256 k) (omega (arith, le_val-lt bs k (omega arith) (λ i. h (suc i)), h 0))

-- no bytes, and one in front
pub le_val-none : (s : List ℕ) (j : ℕ) → 0 ≡ le_val (bytes_at s j 0)
unfolding le_val
le_val-none s j = refl

pub le_val-step : (s : List ℕ) (j d : ℕ) → j < length s → le_val (bytes_at s j (suc d)) ≡ get_or s j 0 + 256 * le_val (bytes_at s (suc j) d)
unfolding le_val
le_val-step s j d h = rw (drop-cons s j 0 h)

pub le_bytes-length : (k x : ℕ) → length (le_bytes k x) ≡ k
unfolding le_bytes
le_bytes-length zero x = refl
le_bytes-length (suc k) x = ap suc (le_bytes-length k _)

pub le_val-le_bytes : (k x : ℕ) → x < 256 ^ k → le_val (le_bytes k x) ≡ x
unfolding le_val le_bytes
le_val-le_bytes zero x h = omega arith
le_val-le_bytes (suc k) x h =
    let l : x < 256 ^ k * 256 = rw (pow-suc 256 k) at h in
    rw (le_val-le_bytes k (x / 256) (omega arith)) (omega arith)

pub le_bytes-le_val : (bs : List ℕ) → Bytes bs → le_bytes (length bs) (le_val bs) ≡ bs
unfolding le_val le_bytes
le_bytes-le_val [] h = refl
le_bytes-le_val (b ∷ bs) h =
    let m : (b + 256 * le_val bs) % 256 ≡ b = omega (arith, h 0) in
    let d : (b + 256 * le_val bs) / 256 ≡ le_val bs = omega (arith, h 0) in
    rw (m, d, le_bytes-le_val bs (λ i. h (suc i)))

-- ---- two's complement: at any number of bytes but 0, whose one number is 0

pub to_signed-of_signed : (k : ℕ) (z : ℤ) → mag z * 2 < 256 ^ suc k → to_signed (suc k) (of_signed (suc k) z) ≡ z
unfolding to_signed of_signed
to_signed-of_signed k (pos n) h = rw (lt-ltb (n * 2) (256 ^ suc k) h)
to_signed-of_signed k (negsuc n) h =
    let e = pow-suc 256 k in
    let l : 256 ^ suc k ≤ (256 ^ suc k - suc n) * 2 = omega arith in
    let b : 256 ^ suc k - suc (256 ^ suc k - suc n) ≡ n = omega arith in
    rw (le-ltb ((256 ^ suc k - suc n) * 2) (256 ^ suc k) l, b)

pub of_signed-lt : (k : ℕ) (z : ℤ) → mag z * 2 < 256 ^ suc k → of_signed (suc k) z < 256 ^ suc k
unfolding of_signed
of_signed-lt k (pos n) h = omega arith
of_signed-lt k (negsuc n) h = omega arith

pub of_signed-to_signed : (k x : ℕ) → x < 256 ^ k → of_signed k (to_signed k x) ≡ x
unfolding to_signed of_signed
of_signed-to_signed k x h = by (ltb (x * 2) (256 ^ k))
  where
    by : (b : Bool) → of_signed k (cond b (pos x) (negsuc (256 ^ k - suc x))) ≡ x
    by true = refl
    by false = omega arith

-- ---- there and back

pub decode-encode : (k : ℕ) (z : ℤ) → mag z * 2 < 256 ^ suc k → decode (suc k) (encode (suc k) z) ≡ z
decode-encode k z h = ap (to_signed (suc k)) (le_val-le_bytes (suc k) (of_signed (suc k) z) (of_signed-lt k z h)) ∙ to_signed-of_signed k z h

pub encode-decode : (bs : List ℕ) → Bytes bs → encode (length bs) (decode (length bs) bs) ≡ bs
encode-decode bs h = rw (of_signed-to_signed (length bs) (le_val bs) (le_val-lt bs (length bs) (omega arith) h)) (le_bytes-le_val bs h)

-- ---- the bytes from a place on

module _ (bytes : List ℕ) (at k : ℕ) where
  pub part_length : at + k ≤ length bytes → length (bytes_at bytes at k) ≡ k
  part_length l = length-take-le k (drop at bytes) (rw length-drop (omega arith))

  pub part_bytes : Bytes bytes → Bytes (bytes_at bytes at k)
  part_bytes b i = either (ltb i k)
      (λ t. rw (get_or-take k (drop at bytes) i 0 (ltb-true i k t), get_or-drop at bytes i 0) (b (at + i)))
      (λ t.
      let past : get_or (take k (drop at bytes)) i 0 ≡ 0 = get_or-eq_default (take k (drop at bytes)) 0 {n = i} (rw length-take (omega (arith, ltb-false i k t))) in
      rw past (omega arith))

  -- and the next ones
  pub part-more : (m : ℕ) → bytes_at bytes at k ++ bytes_at bytes (at + k) m ≡ bytes_at bytes at (k + m)
  part-more m = sym (take-add k m (drop at bytes) ∙ ap (λ x. bytes_at bytes at k ++ take m x) (drop-drop k at bytes))

  module _ (l : at + k ≤ length bytes) (b : Bytes bytes) where
    -- what is read there, written, is what stood there
    pub number-back : le_bytes k (le_val (bytes_at bytes at k)) ≡ bytes_at bytes at k
    number-back = rw (part_length l) at (le_bytes-le_val (bytes_at bytes at k) (part_bytes b))

    pub signed_back : encode k (decode k (bytes_at bytes at k)) ≡ bytes_at bytes at k
    signed_back = rw (part_length l) at (encode-decode (bytes_at bytes at k) (part_bytes b))
