use Prim.Native.Nat.{◌-◌}
use Rattle.c_forms.specs.Limits.{bound_at}
use Rattle.c_forms.proofs.Lists.{Filling}
use Rattle.c_forms.proofs.limits.bounds_of.Given as goal

abbrev pub invariant-loop-i : goal.invariant-loop-i
invariant-loop-i l = Filling (bound_at l.values l.kinds) 16 l.initial.items l.items l.i

abbrev pub decreases-loop-i : goal.decreases-loop-i
decreases-loop-i l = 16 - l.i
