-- `limits::all_between` meets its contract. The loop's invariant: what is left to test decides. Assumes nothing.

use mathlib.Core.Path.{refl, sym, ◌∙◌}
use native.Mathlib.Omega.{arith}
use native.Mathlib.Numerals.{add-one}
use borrow.Author.Tests.{le-leb, lt-leb}
use Rattle.c_forms.proofs.Lists.{every_here, every-not, every-end}
use borrow.Author.Rules.{rules}
use Rattle.c_forms.proofs.limits.all_between.Goals as goal

pub loop-i-init : goal.loop-i-init
loop-i-init c = (search rules, refl)

pub returns-then-number-low : goal.returns-then-number-low
returns-then-number-low c =
    sym (every-not _ c.args.numbers.now c.loop-i.i c.loop-i-test.true (rw (lt-leb _ _ c.if-number-low.true))) ∙ c.loop-i.invariant.1

pub returns-then-high-number : goal.returns-then-high-number
returns-then-high-number c =
    sym (every-not _ c.args.numbers.now c.loop-i.i c.loop-i-test.true (rw (le-leb _ _ c.if-number-low.false, lt-leb _ _ c.if-high-number.true))) ∙ c.loop-i.invariant.1

pub loop-i-preserved : goal.loop-i-preserved
loop-i-preserved c = (
  search rules,
  rw add-one
      (sym (every_here _ c.args.numbers.now c.loop-i.i c.loop-i-test.true (rw (le-leb _ _ c.if-number-low.false, le-leb _ _ c.if-high-number.false))) ∙ c.loop-i.invariant.1),
)

pub returns : goal.returns
returns c = sym (every-end _ c.args.numbers.now c.loop-i.i (omega arith)) ∙ c.loop-i.invariant.1
