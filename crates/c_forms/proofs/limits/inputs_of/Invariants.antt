use Prim.Native.Nat.{◌-◌}
use Rattle.c_forms.specs.Limits.{input_at}
use Rattle.c_forms.proofs.Lists.{Filling}
use Rattle.c_forms.proofs.limits.inputs_of.Given as goal

abbrev pub invariant-loop-i : goal.invariant-loop-i
invariant-loop-i l = Filling (input_at l.values l.found) 8 l.initial.items l.items l.i

abbrev pub decreases-loop-i : goal.decreases-loop-i
decreases-loop-i l = 8 - l.i
