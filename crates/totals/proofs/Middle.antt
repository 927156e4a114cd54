-- n · least + t · (0 + 1 + .. + (n - 1)) by one product with the middle: way = t · (n - 1), middle = least + way / 2.
-- Where n is odd the way is even and the middle is the mean; where n is even, half of n times the odd bit is missing. Assumes nothing.
use Prim.Native.Nat.{ℕ, zero, suc, ◌+◌, ◌-◌, ◌*◌, ◌/◌, ◌%◌, ◌<◌, ◌≤◌}
use mathlib.Core.Path.{◌≡◌, refl, sym, ap, ◌∙◌}
use mathlib.Core.Logic.{⊎_elim}
use native.Mathlib.Omega.{arith}
use native.Mathlib.Nat.{mul-add, suc-mul, mul-suc, mul_assoc, mul_left_comm, mul-le-mul, mul-le-mul_left}
use Rattle.ranges.proofs.Spans.{lt-or-ge}
use Rattle.totals.specs.Inner.{tri}

square : (n : ℕ) → n * (n - 1) + n ≡ n * n
square zero = refl
square (suc n) = let e : suc n - 1 ≡ n = omega arith in rw e (sym (mul-suc (suc n) n))

pub twice-tri : (n : ℕ) → tri n + tri n ≡ n * (n - 1)
unfolding tri
twice-tri zero = refl
twice-tri (suc n) =
    let e : suc n - 1 ≡ n = omega arith in
    let h : tri n + tri n ≡ n * (n - 1) = twice-tri n in
    rw (e, suc-mul n n) (omega (arith, square n))

-- the odd bit counts half of n times
halves : (n w : ℕ) → (n % 2 ≡ 1 → w % 2 ≡ 0) → (n * (w / 2) + n / 2 * (w % 2)) + (n * (w / 2) + n / 2 * (w % 2)) ≡ n * w
halves n w f =
    let e : w ≡ 2 * (w / 2) + w % 2 = omega arith in
    let g : n * w ≡ 2 * (n * (w / 2)) + n * (w % 2) =
    ap (λ (y : ℕ). n * y) e ∙ mul-add n (2 * (w / 2)) (w % 2) ∙ ap (λ (y : ℕ). y + n * (w % 2)) (mul_left_comm n 2 (w / 2)) in
    ⊎_elim
    (λ (l : n % 2 < 1).
    let d : n ≡ 2 * (n / 2) = omega arith in
    let k : n * (w % 2) ≡ 2 * (n / 2 * (w % 2)) = ap (λ (y : ℕ). y * (w % 2)) d ∙ mul_assoc 2 (n / 2) (w % 2) in
    omega arith)
    (λ (l : 1 ≤ n % 2).
    let z : w % 2 ≡ 0 = f (omega arith) in
    let k : n * (w % 2) ≡ 0 = ap (λ (y : ℕ). n * y) z ∙ omega arith in
    let m : n / 2 * (w % 2) ≡ 0 = ap (λ (y : ℕ). n / 2 * y) z ∙ omega arith in
    omega arith)
    (lt-or-ge (n % 2) 1)

-- an odd n has an even way
way-even : (t n : ℕ) → n % 2 ≡ 1 → t * (n - 1) % 2 ≡ 0
way-even t n e =
    let d : n - 1 ≡ 2 * (n / 2) = omega arith in
    let k : t * (n - 1) ≡ 2 * (t * (n / 2)) = ap (λ (y : ℕ). t * y) d ∙ mul_left_comm t 2 (n / 2) in
    omega arith

module _ (least t n : ℕ) where
  abbrev way : ℕ
  way = t * (n - 1)

  abbrev mid : ℕ
  mid = least + way / 2

  abbrev odd : ℕ
  odd = n / 2 * (way % 2)

  pub by-middle : n * mid + odd ≡ n * least + t * tri n
  by-middle =
      let h : (n * (way / 2) + odd) + (n * (way / 2) + odd) ≡ n * way = halves n way (way-even t n) in
      let g : n * way ≡ t * tri n + t * tri n = mul_left_comm n t (n - 1) ∙ ap (λ (x : ℕ). t * x) (sym (twice-tri n)) ∙ mul-add t (tri n) (tri n) in
      let k : n * mid ≡ n * least + n * (way / 2) = mul-add n least (way / 2) in
      omega arith

  -- ---- by halves of 32 bits
  abbrev pub part : ℕ
  part = n * (mid % 4294967296) + odd

  abbrev pub top : ℕ
  top = n * (mid / 4294967296) + part / 4294967296

  halved : n * mid ≡ n * (mid / 4294967296) * 4294967296 + n * (mid % 4294967296)
  halved =
      let e : mid ≡ mid / 4294967296 * 4294967296 + mid % 4294967296 = omega arith in
      ap (λ (x : ℕ). n * x) e ∙ mul-add n (mid / 4294967296 * 4294967296) (mid % 4294967296) ∙ ap (λ (x : ℕ). x + n * (mid % 4294967296)) (sym (mul_assoc n (mid / 4294967296) 4294967296))

  pub top-exact : top * 4294967296 + part % 4294967296 ≡ n * least + t * tri n
  top-exact = omega (arith, halved, by-middle)

  module _ (size : t ≤ 32768) (some : 0 < n) (few : n ≤ 4294967295) (reach : least + way < 18446744073709551616) where
    pub way-lt : way < 140737488355328
    way-lt = omega (arith, mul-le-mul size (let l : n - 1 ≤ 4294967294 = omega arith in l))

    pub mid-lt : mid < 18446744073709551616
    mid-lt = omega (arith)

    pub odd-le : odd ≤ 2147483647
    odd-le = let a : n / 2 ≤ 2147483647 = omega arith in let b : way % 2 ≤ 1 = omega arith in omega (arith, mul-le-mul a b)

    pub low-le : n * (mid % 4294967296) ≤ 4294967295 * 4294967295
    low-le = let b : mid % 4294967296 ≤ 4294967295 = omega arith in mul-le-mul few b

    pub high_le : n * (mid / 4294967296) ≤ 4294967295 * 4294967295
    high_le = let b : mid / 4294967296 ≤ 4294967295 = omega (arith, mid-lt) in mul-le-mul few b

    pub part-lt : part < 18446744073709551616
    part-lt = omega (arith, odd-le, low-le)

    -- below n · 2 ^ 32: the mean of the elements is an i64
    pub top_lt : top < n * 4294967296
    top_lt =
        let b : mid + way % 2 ≤ 18446744073709551615 = omega arith in
        let k : n * (mid + way % 2) ≤ n * 18446744073709551615 = mul-le-mul_left n b in
        let d : n * (mid + way % 2) ≡ n * mid + n * (way % 2) = mul-add n mid (way % 2) in
        let h : n / 2 ≤ n = omega arith in
        let o : odd ≤ n * (way % 2) = mul-le-mul h (let l : way % 2 ≤ way % 2 = omega arith in l) in
        omega (arith, halved)

    pub top-fits : top < 18446744073709551616
    top-fits = omega (arith, top_lt)
