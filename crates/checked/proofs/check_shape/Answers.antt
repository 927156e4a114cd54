-- `checked::check_shape` meets its contract. Assumes nothing.
use Rattle.std.proofs.Common.{eqb, refl, eq-eqb, ne_eqb}
use Rattle.ranges.proofs.Bools.{and-false}
use Rattle.meaning.specs.Column.{shape_ok}
use Rattle.checked.proofs.check_shape.Goals as goal

pub returns-then-starts-n : goal.returns-then-starts-n
unfolding shape_ok
returns-then-starts-n c = rw (ne_eqb _ _ c.if-starts-n.true)

pub returns-then-steps-n : goal.returns-then-steps-n
unfolding shape_ok
returns-then-steps-n c = rw (ne_eqb _ _ c.if-steps-n.true, and-false (eqb _ _) _ refl)

pub returns : goal.returns
unfolding shape_ok
returns c = rw (eq-eqb _ _ c.if-starts-n.false, eq-eqb _ _ c.if-steps-n.false)
