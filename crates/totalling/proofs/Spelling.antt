-- Decimal digits, written from the last to the first. Assumes nothing.
use Prim.Native.Nat.{ℕ, zero, suc, ◌+◌, ◌-◌, ◌*◌, ◌/◌, ◌%◌, ◌^◌, ◌<◌, ◌≤◌}
use mathlib.Core.Path.{◌≡◌, refl, sym, ap, subst, ◌∙◌}
use mathlib.Core.List.{List, [], ◌∷◌, ◌++◌}
use mathlib.Core.Logic.{⊎_elim}
use native.Mathlib.Nat.{le_refl, le_trans, mod-lt, add-mul-mod_self_left, add-mul-div_left, pow-zero, pow-suc, pow-succ', one-le-pow, pow-le-pow_right, div-one, div-div-eq-div-mul, le-div_iff_mul-le, div-lt_iff_lt-mul}
use native.Mathlib.Omega.{arith}
use borrow.Author.Tests.{lt-ltb, le-ltb}
use lib.Dec.{ltb}
use lib.ListN.{length, take, drop, set, length-set}
use lib.Seq.{set_split, drop_at, drop-length, length-take-le, take-set-le, take-take}
use Rattle.ranges.proofs.Spans.{first-is, lt-or-ge}
use Rattle.io.specs.Digits.{hex_digit_ascii, last_digits}
use Rattle.totalling.specs.Decimal.{width_of, digits_of}

-- ---- powers of ten

left-of : (n k : ℕ) → n / 10 ^ k / 10 ≡ n / 10 ^ suc k
left-of n k = div-div-eq-div-mul n (10 ^ k) 10 ∙ ap (λ (d : ℕ). n / d) (sym (pow-suc 10 k))

some_left : (n k : ℕ) → 0 < n / 10 ^ k → 10 ^ k ≤ n
some_left n k h =
    let p : 1 * 10 ^ k ≤ n = (le-div_iff_mul-le (one-le-pow k 10 (omega arith))).0 h in
    omega arith

none_left : (n k : ℕ) → n / 10 ^ k ≡ 0 → n < 10 ^ k
none_left n k e =
    let p : n < 1 * 10 ^ k = (div-lt_iff_lt-mul (one-le-pow k 10 (omega arith))).0 (omega arith) in
    omega arith

below_power : (k : ℕ) → k < 10 ^ k
below_power zero = one-le-pow 0 10 (omega arith)
below_power (suc k) = omega (arith, below_power k, pow-suc 10 k)

-- ---- how many digits there are

width_is : (n k : ℕ) → (0 < k → 0 < n / 10 ^ k) → n / 10 ^ suc k ≡ 0 → width_of n ≡ suc k
unfolding width_of
width_is n k more none = first-is (λ (j : ℕ). ltb n (10 ^ j)) 1 (suc (suc n)) (suc k) (omega arith) (few k more)
    (λ j l m. le-ltb n (10 ^ j) (le_trans (pow-le-pow_right (omega arith) (omega arith)) (some_left n k (more (omega arith)))))
    (lt-ltb n (10 ^ suc k) (none_left n (suc k) none))
  where
    few : (k : ℕ) → (0 < k → 0 < n / 10 ^ k) → suc k < suc (suc n)
    few zero m = omega arith
    few (suc k) m = omega (arith, some_left n (suc k) (m (omega arith)), below_power (suc k))

-- ---- a digit more in front

front : (k n : ℕ) → last_digits 10 (suc k) n ≡ hex_digit_ascii (n / 10 ^ k % 10) ∷ last_digits 10 k n
front zero n = ap (λ (m : ℕ). hex_digit_ascii (m % 10) ∷ []) (sym (ap (λ (d : ℕ). n / d) (pow-zero 10) ∙ div-one n))
front (suc k) n =
    ap (λ (l : List ℕ). l ++ (hex_digit_ascii (n % 10) ∷ [])) (front k (n / 10))
    ∙ ap (λ (m : ℕ). hex_digit_ascii (m % 10) ∷ last_digits 10 (suc k) n) (div-div-eq-div-mul n 10 (10 ^ k) ∙ ap (λ (d : ℕ). n / d) (sym (pow-succ' 10 k)))

plain : (d : ℕ) → d < 10 → 48 + d ≡ hex_digit_ascii d
plain d l = rw (lt-ltb d 10 l)

pub stored : (t : List ℕ) (j g : ℕ) → j < length t → drop j (set t j g) ≡ g ∷ drop (suc j) t
stored t j g h = rw (set_split t j g h) (drop_at (take j t) (g ∷ drop (suc j) t) j (length-take-le j t (omega arith)))

-- what is before a place that is set stays
pub shorter : (t old : List ℕ) (j g : ℕ) → take (suc j) t ≡ take (suc j) old → take j (set t j g) ≡ take j old
shorter t old j g e = take-set-le j t j g (le_refl j) ∙ sym (take-take j (suc j) t (omega arith)) ∙ ap (take j) e ∙ take-take j (suc j) old (omega arith)

-- ---- the loop: k digits of n are written, from i on, and h and l are the halves of what is left

pub record Spelt (n k i h l : ℕ) (old out : List ℕ) : Type 0 where
  pub room : length out ≡ 30
  pub places : i + k ≡ 30
  pub small : l < 4294967296
  pub rest : h * 4294967296 + l ≡ n / 10 ^ k
  pub done : drop i out ≡ last_digits 10 k n
  pub kept : take i out ≡ take i old

pub begun : (n h l : ℕ) (out : List ℕ) → length out ≡ 30 → l < 4294967296 → h * 4294967296 + l ≡ n → Spelt n 0 30 h l out out
begun n h l out r s e =
    record {
      room = r;
      places = omega arith;
      small = s;
      rest = e ∙ sym (ap (λ (d : ℕ). n / d) (pow-zero 10) ∙ div-one n);
      done = subst (λ (m : ℕ). drop m out ≡ []) r (drop-length out);
      kept = refl;
    }

-- while something is left there is a place to spare
pub spare : (n k i h l : ℕ) (old out : List ℕ) → Spelt n k i h l old out → n < 100000000000000000000000000000 → (0 < k → 0 < h * 4294967296 + l) → 1 < i
spare n k i h l old out s b more = ⊎_elim
    (λ (u : k < 29). omega (arith, s.places))
    (λ (u : 29 ≤ k).
    let p : 10 ^ k ≤ n = some_left n k (subst (λ (m : ℕ). 0 < m) s.rest (more (omega arith))) in
    let q : 10 ^ 29 ≤ 10 ^ k = pow-le-pow_right (omega arith) u in
    absurd (omega arith))
    (lt-or-ge k 29)

-- a turn
module _ (n k j h l : ℕ) (old out : List ℕ) (s : Spelt n k (suc j) h l old out) where
  abbrev part : ℕ
  part = h % 10 * 4294967296 + l

  pub turned : Spelt n (suc k) j (h / 10) (part / 10) old (set out j (48 + part % 10))
  turned =
      let small = s.small in
      let room = s.room in
      let places = s.places in
      let whole : h * 4294967296 + l ≡ part + 10 * (h / 10 * 4294967296) = omega arith in
      let digit : part % 10 ≡ n / 10 ^ k % 10 = sym (ap (λ (m : ℕ). m % 10) (sym s.rest ∙ whole) ∙ add-mul-mod_self_left part 10 (h / 10 * 4294967296)) in
      let tenth : part / 10 + h / 10 * 4294967296 ≡ (h * 4294967296 + l) / 10 = sym (ap (λ (m : ℕ). m / 10) whole ∙ add-mul-div_left part (h / 10 * 4294967296) (omega arith)) in
      record {
        room = length-set out j (48 + part % 10) ∙ room;
        places = omega arith;
        small = omega arith;
        rest = omega (arith, tenth) ∙ ap (λ (m : ℕ). m / 10) s.rest ∙ left-of n k;
        done =
            stored out j (48 + part % 10) (omega arith)
            ∙ ap (λ (d : ℕ). (48 + d) ∷ drop (suc j) out) digit
            ∙ ap (λ (d : ℕ). d ∷ drop (suc j) out) (plain (n / 10 ^ k % 10) (mod-lt (n / 10 ^ k) (omega arith)))
            ∙ ap (λ (xs : List ℕ). hex_digit_ascii (n / 10 ^ k % 10) ∷ xs) s.done
            ∙ sym (front k n);
        kept = shorter out old j (48 + part % 10) s.kept;
      }

-- the same, of the number of places before the digits
pub turn : (n i h l : ℕ) (old out : List ℕ) → 0 < i → Spelt n (30 - i) i h l old out
    → Spelt n (30 - (i - 1)) (i - 1) (h / 10) ((h % 10 * 4294967296 + l) / 10) old (set out (i - 1) (48 + (h % 10 * 4294967296 + l) % 10))
turn n i h l old out p s =
    let e : i ≡ suc (i - 1) = omega arith in
    let places = s.places in
    subst (λ (k : ℕ). Spelt n k (i - 1) (h / 10) ((h % 10 * 4294967296 + l) / 10) old (set out (i - 1) (48 + (h % 10 * 4294967296 + l) % 10))) (omega arith)
    (turned n (30 - i) (i - 1) h l old out (subst (λ (m : ℕ). Spelt n (30 - i) m h l old out) e s))

-- nothing is left: these are the digits
spelt : (n k i h l : ℕ) (old out : List ℕ) → (0 < k → 0 < n / 10 ^ k) → Spelt n (suc k) i h l old out → h * 4294967296 + l ≡ 0 → drop i out ≡ digits_of n
unfolding digits_of
spelt n k i h l old out more s e = s.done ∙ ap (λ (m : ℕ). last_digits 10 m n) (sym (width_is n k more (sym s.rest ∙ e)))

pub ended : (n i h l h' l' j : ℕ) (old out out' : List ℕ) → Spelt n (30 - i) i h l old out → (i < 30 → 0 < h * 4294967296 + l) → 0 < i → j ≡ i - 1
    → Spelt n (30 - j) j h' l' old out' → h' ≡ 0 → l' ≡ 0 → drop j out' ≡ digits_of n
ended n i h l h' l' j old out out' s more p e t a b =
    let places = s.places in
    spelt n (30 - i) j h' l' old out' (λ u. subst (λ (m : ℕ). 0 < m) s.rest (more (omega arith)))
    (subst (λ (k : ℕ). Spelt n k j h' l' old out') (omega arith) t) (omega arith)
