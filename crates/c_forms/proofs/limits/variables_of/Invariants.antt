use Prim.Native.Nat.{◌-◌}
use Rattle.c_forms.specs.Limits.{variable_at}
use Rattle.c_forms.proofs.Lists.{Filling}
use Rattle.c_forms.proofs.limits.variables_of.Given as goal

abbrev pub invariant-loop-i : goal.invariant-loop-i
invariant-loop-i l = Filling (variable_at l.inputs l.kinds) 16 l.initial.items l.items l.i

abbrev pub decreases-loop-i : goal.decreases-loop-i
decreases-loop-i l = 16 - l.i
