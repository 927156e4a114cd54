-- Two numbers that add up to a third, tested without a sum. Assumes nothing.
use Prim.Native.Nat.{ℕ, ◌+◌, ◌-◌, ◌≤◌}
use mathlib.Core.Path.{◌≡◌, sym, ◌∙◌}
use native.Mathlib.Omega.{arith}
use borrow.Author.Tests.{eqb-true, eqb-false, eq-eqb, ne_eqb}
use lib.Dec.{eqb}
use Rattle.ranges.proofs.Bools.{either}

pub add-test : (c f s : ℕ) → c ≤ s → eqb (s - c) f ≡ eqb (c + f) s
add-test c f s l = either (eqb (s - c) f)
    (λ t. t ∙ sym (eq-eqb (c + f) s (omega (arith, eqb-true (s - c) f t))))
    (λ t. t ∙ sym (ne_eqb (c + f) s (λ e. eqb-false (s - c) f t (omega arith))))
