-- `bounds::choose` meets its contract. Assumes nothing.
use mathlib.Core.Path.{◌≡◌, sym, ap, ◌∙◌}
use mathlib.Core.Bool.{Bool, cond}
use Rattle.bounds.specs.declared.Bound.{Bound}
use Rattle.bounds.proofs.choose.Goals as goal

-- b or a, by one test for another
by : (a b : Bound) {t u : Bool} → t ≡ u → cond t b a ≡ cond u b a
by a b e = ap (λ (t : Bool). cond t b a) e

pub returns-then-comes_before : goal.returns-then-comes_before
returns-then-comes_before c = rw c.in-Lower.is (by _ _ (sym c.if-comes_before.true ∙ c.comes_before.ensures))

pub returns-then-is_winner : goal.returns-then-is_winner
returns-then-is_winner c = rw c.in-Upper.is (by _ _ (sym c.if-is_winner.true ∙ c.is_winner.ensures))

pub returns-else-comes_before : goal.returns-else-comes_before
returns-else-comes_before c = rw c.in-Lower.is (by _ _ (sym c.if-comes_before.false ∙ c.comes_before.ensures))

pub returns-else-is_winner : goal.returns-else-is_winner
returns-else-is_winner c = rw c.in-Upper.is (by _ _ (sym c.if-is_winner.false ∙ c.is_winner.ensures))
