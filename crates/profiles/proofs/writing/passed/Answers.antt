-- `writing::passed` meets its contract. Assumes nothing.
use mathlib.Core.Path.{sym, ap}
use native.Mathlib.Omega.{arith}
use Prim.Native.Nat.{◌-◌}
use lib.ListN.{length}
use Rattle.profiles.proofs.Filling.{past-none, past-long, past-few, some-of}
use Rattle.profiles.proofs.writing.passed.Goals as goal

pub returns-then-n-eq0 : goal.returns-then-n-eq0
returns-then-n-eq0 c = sym (ap length (past-none c.args.at c.args.first c.args.step c.args.n c.if-n-eq0.true))

pub overflow_sub-result : goal.overflow_sub-result
overflow_sub-result c = c.requires.above (some-of c.args.n c.if-n-eq0.false)

pub overflow_sub-result-2 : goal.overflow_sub-result-2
overflow_sub-result-2 c = omega (arith, c.requires.up)

pub overflow_mul-result : goal.overflow_mul-result
overflow_mul-result c = omega (arith, past-few c.args.step (c.args.n - 1), c.requires.last (some-of c.args.n c.if-n-eq0.false))

pub overflow_add-result : goal.overflow_add-result
overflow_add-result c = omega (arith, past-few c.args.step (c.args.n - 1), c.requires.last (some-of c.args.n c.if-n-eq0.false))

pub returns : goal.returns
returns c = sym (past-long c.args.at c.args.first c.args.step c.args.n (some-of c.args.n c.if-n-eq0.false))
