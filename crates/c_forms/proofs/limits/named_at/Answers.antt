-- `limits::named_at` meets its contract. Assumes nothing.
use mathlib.Core.Path.{sym}
use lib.ListN.{get_or-eq_default}
use Rattle.c_forms.proofs.limits.named_at.Goals as goal

pub returns-else-i-inputs : goal.returns-else-i-inputs
returns-else-i-inputs c = sym (get_or-eq_default c.args.inputs.now 0 {n = c.args.i} c.if-i-inputs.false)
