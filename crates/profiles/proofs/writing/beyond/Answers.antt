-- `writing::beyond` meets its contract. Assumes nothing.
use mathlib.Core.Path.{sym, ◌∙◌}
use native.Mathlib.Numerals.{add-one}
use native.Mathlib.Omega.{arith}
use Rattle.profiles.proofs.Filling.{beyond-none, beyond-some, some-of}
use Rattle.profiles.proofs.writing.beyond.Goals as goal

pub returns-then-n-eq0 : goal.returns-then-n-eq0
returns-then-n-eq0 c = sym (beyond-none c.args.at c.args.first c.args.step c.args.n c.if-n-eq0.true)

pub overflow_mul-result : goal.overflow_mul-result
overflow_mul-result c = omega (arith, c.requires.last (some-of c.args.n c.if-n-eq0.false))

pub overflow_add-result : goal.overflow_add-result
overflow_add-result c = omega (arith, c.requires.last (some-of c.args.n c.if-n-eq0.false))

pub overflow_add-result-2 : goal.overflow_add-result-2
overflow_add-result-2 c = omega (arith, c.requires.last (some-of c.args.n c.if-n-eq0.false))

pub returns : goal.returns
returns c = add-one _ ∙ sym (beyond-some c.args.at c.args.first c.args.step c.args.n (some-of c.args.n c.if-n-eq0.false))
