-- Integers as differences a - b of natural numbers, `sub_ℕ a b`: their sums, products with 2 ^ 32 and equality are linear arithmetic of ℕ.
-- Assumes nothing.
use Prim.Native.Nat.{ℕ, zero, suc, ◌+◌, ◌-◌, ◌*◌, ◌<◌, ◌≤◌}
use mathlib.Core.Path.{◌≡◌, refl, sym, ap, ◌∙◌}
use mathlib.Core.Logic.{⊎_elim}
use native.Mathlib.Omega.{arith}
use lib.IntN.{ℤ, pos, negsuc, neg_ℤ, sub_ℕ, ◌+ℤ◌, ◌-ℤ◌, ◌*ℤ◌}
use Rattle.ranges.proofs.Spans.{lt-or-ge}
use Rattle.keys.proofs.Keys.{sub_low, sub-high}

pub sub_same : (a b c d : ℕ) → a + d ≡ c + b → sub_ℕ a b ≡ sub_ℕ c d
sub_same a b c d e = ⊎_elim
    (λ (l : a < b). rw (sub_low a b l, sub_low c d (omega arith)) (ap negsuc (omega arith)))
    (λ (l : b ≤ a). rw (sub-high a b l, sub-high c d (omega arith)) (ap pos (omega arith)))
    (lt-or-ge a b)

pub pos-sub : (n : ℕ) → pos n ≡ sub_ℕ n 0
pos-sub n = sym (sub-high n 0 (omega arith) ∙ ap pos (omega arith))

pub neg-sub : (n : ℕ) → neg_ℤ (pos n) ≡ sub_ℕ 0 n
neg-sub zero = refl
neg-sub (suc n) = sym (sub_low 0 (suc n) (omega arith) ∙ ap negsuc (omega arith))

pub sub-add : (a b c d : ℕ) → sub_ℕ a b +ℤ sub_ℕ c d ≡ sub_ℕ (a + c) (b + d)
sub-add a b c d = ⊎_elim
    (λ (l : a < b). ⊎_elim
    (λ (m : c < d). rw (sub_low a b l, sub_low c d m, sub_low (a + c) (b + d) (omega arith)) (ap negsuc (omega arith)))
    (λ (m : d ≤ c). rw (sub_low a b l, sub-high c d m) (sub_same (c - d) (suc (b - suc a)) (a + c) (b + d) (omega arith)))
    (lt-or-ge c d))
    (λ (l : b ≤ a). ⊎_elim
    (λ (m : c < d). rw (sub-high a b l, sub_low c d m) (sub_same (a - b) (suc (d - suc c)) (a + c) (b + d) (omega arith)))
    (λ (m : d ≤ c). rw (sub-high a b l, sub-high c d m, sub-high (a + c) (b + d) (omega arith)) (ap pos (omega arith)))
    (lt-or-ge c d))
    (lt-or-ge a b)

-- times 2 ^ 32
pub sub-mul : (a b : ℕ) → sub_ℕ a b *ℤ pos 4294967296 ≡ sub_ℕ (a * 4294967296) (b * 4294967296)
sub-mul a b = ⊎_elim
    (λ (l : a < b). rw (sub_low a b l) (neg-sub (suc (b - suc a) * 4294967296) ∙ sub_same 0 (suc (b - suc a) * 4294967296) (a * 4294967296) (b * 4294967296) (omega arith)))
    (λ (l : b ≤ a). rw (sub-high a b l) (pos-sub ((a - b) * 4294967296) ∙ sub_same ((a - b) * 4294967296) 0 (a * 4294967296) (b * 4294967296) (omega arith)))
    (lt-or-ge a b)

-- a number above, and one below
pub sub-up : (a b n : ℕ) → sub_ℕ a b +ℤ pos n ≡ sub_ℕ (a + n) b
sub-up a b n = ap (λ (z : ℤ). sub_ℕ a b +ℤ z) (pos-sub n) ∙ sub-add a b n 0 ∙ sub_same (a + n) (b + 0) (a + n) b (omega arith)

pub sub-down : (a b n : ℕ) → n ≤ a → sub_ℕ a b -ℤ pos n ≡ sub_ℕ (a - n) b
sub-down a b n l = ap (λ (z : ℤ). sub_ℕ a b +ℤ z) (neg-sub n) ∙ sub-add a b 0 n ∙ sub_same (a + 0) (b + n) (a - n) b (omega arith)
