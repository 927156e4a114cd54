-- `totalling::sum` writes the text of the sum. Assumes nothing.
use Prim.Native.Nat.{◌-◌}
use mathlib.Core.Path.{◌∙◌}
use native.Mathlib.Omega.{arith}
use lib.ListN.{drop, length-drop}
use lib.Seq.{take_all}
use Rattle.totalling.proofs.sum.Goals as goal

pub slice_bounds-put_sum-end : goal.slice_bounds-put_sum-end
slice_bounds-put_sum-end c = omega (arith, c.spelled-at.ensures.upper_bound.1)

pub put_sum-requires : goal.put_sum-requires
put_sum-requires c =
    let s = c.spelled-at in
    let xs = s.new.out in
    take_all (30 - s.result) (drop s.result xs) (omega (arith, length-drop s.result xs, s.ensures.upper_bound.1)) ∙ s.ensures.out_after
