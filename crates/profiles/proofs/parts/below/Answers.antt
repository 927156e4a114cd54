-- `parts::below` meets its contract: none, all, or by one division. Assumes nothing.
use Prim.Native.Nat.{◌-◌}
use native.Mathlib.Omega.{arith}
use native.Mathlib.Nat.{div-le_self}
use Rattle.profiles.proofs.Strips.{below_none, below_all, below-some}
use Rattle.profiles.proofs.parts.below.Goals as goal

pub returns-then-x-first : goal.returns-then-x-first
returns-then-x-first c = below_none c.args.first c.args.step c.args.more c.args.x c.if-x-first.true

pub returns-then-first-step : goal.returns-then-first-step
returns-then-first-step c = below_all c.args.first c.args.step c.args.more c.args.x c.if-first-step.true

pub overflow_add-result-2 : goal.overflow_add-result-2
overflow_add-result-2 c = omega (arith, div-le_self (c.args.x - c.args.first - 1) c.args.step)

pub returns : goal.returns
returns c = below-some c.args.first c.args.step c.args.more c.args.x c.requires.0 c.if-x-first.false c.if-first-step.false
