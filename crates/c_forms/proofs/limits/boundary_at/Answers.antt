-- `limits::boundary_at` meets its contract. Assumes nothing.
use native.Mathlib.Omega.{arith}
use lib.ListN.{get_or-eq_default}
use Rattle.c_forms.proofs.limits.boundary_at.Goals as goal

pub overflow_cast-kinds : goal.overflow_cast-kinds
overflow_cast-kinds c = omega (arith, c.shared_slice_known-then-i-kinds-1.given c.args.i)

pub returns-then-i-kinds : goal.returns-then-i-kinds
returns-then-i-kinds c = c.boundary_of.ensures

pub returns-else-i-kinds : goal.returns-else-i-kinds
returns-else-i-kinds c = rw (get_or-eq_default c.args.kinds.now 0 {n = c.args.i} c.if-i-kinds.false)
