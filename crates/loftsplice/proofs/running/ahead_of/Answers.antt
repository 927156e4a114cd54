-- `running::ahead_of` meets its contract. Assumes nothing.
use Rattle.std.proofs.Common.{sym, ap, ◌∙◌, add-one, arith}
use Rattle.loftsplice.specs.Inner.{ahead}
use Rattle.loftsplice.proofs.running.ahead_of.Goals as goal

pub overflow_add-result : goal.overflow_add-result
overflow_add-result c = omega (arith, c.requires _ c.in-At.is)

pub returns-in-At : goal.returns-in-At
returns-in-At c = add-one _ ∙ ap (ahead c.args.scan) (sym c.in-At.is)
