-- `limits::value_at` meets its contract. Assumes nothing.
use mathlib.Core.Path.{sym}
use lib.IntN.{pos}
use lib.ListN.{get_or-eq_default}
use mir.Syntax.{w64}
use Rattle.keys.proofs.Bits.{back}
use Rattle.c_forms.proofs.limits.value_at.Goals as goal

pub returns-then-i-values : goal.returns-then-i-values
returns-then-i-values c = back w64 _ c.result-1.given

pub returns-else-i-values : goal.returns-else-i-values
returns-else-i-values c = sym (get_or-eq_default c.args.values.now (pos 0) {n = c.args.i} c.if-i-values.false)
