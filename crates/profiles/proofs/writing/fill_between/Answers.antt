-- `writing::fill_between` meets its contract: nothing, one fill, or gap by gap. Assumes nothing.
use mathlib.Core.Path.{◌∙◌}
use native.Mathlib.Omega.{arith}
use lib.ListN.{length}
use Rattle.profiles.proofs.Filling.{nothing-between, two-between, one-wide}
use Rattle.profiles.proofs.writing.fill_between.Goals as goal

pub returns-then-step-eq1 : goal.returns-then-step-eq1
returns-then-step-eq1 c = nothing-between c.args.first c.args.step c.args.gaps c.args.out.now c.if-step-eq1.true c.requires.1

pub fill-requires : goal.fill-requires
fill-requires c =
    omega (arith, one-wide c.args.step c.args.gaps c.if-step-eq2.true, c.requires.1, c.requires.2)

pub returns-then-step-eq2 : goal.returns-then-step-eq2
returns-then-step-eq2 c =
    c.fill.ensures ∙ two-between c.args.first c.args.step c.args.gaps (length c.args.out.now) c.if-step-eq2.true c.requires.1
