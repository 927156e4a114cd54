-- `marking::clear` meets its contract: the bytes below j are 0. Assumes nothing.
use Prim.Native.Nat.{ℕ}
use mathlib.Core.Path.{◌≡◌, refl, ap, ◌∙◌}
use mathlib.Core.List.{List, ◌++◌, append-nil}
use native.Mathlib.Omega.{arith}
use native.Mathlib.Nat.{le_refl}
use lib.ListN.{length, replicate, drop, set, length-set, drop_of_length-le}
use borrow.Author.Fill.{fill_none, fill_more}
use Rattle.exporting.proofs.marking.clear.Goals as goal

-- nothing is left after all of a list
all-gone : (l : List ℕ) → replicate (length l) 0 ++ drop (length l) l ≡ replicate (length l) 0
all-gone l = ap (λ (t : List ℕ). replicate (length l) 0 ++ t) (drop_of_length-le l (le_refl (length l))) ∙ append-nil (replicate (length l) 0)

pub loop-j-init : goal.loop-j-init
loop-j-init c = (omega arith, refl, fill_none _ 0)

pub loop-j-preserved : goal.loop-j-preserved
loop-j-preserved c = (
  omega arith,
  length-set c.loop-j.bytes c.loop-j.j 0 ∙ c.loop-j.invariant.1,
  ap (λ l. set l c.loop-j.j 0) c.loop-j.invariant.2 ∙ fill_more c.loop-j.j 0 c.args.bytes.now (omega (arith, c.loop-j.invariant.1)),
)

pub shape_of-bytes : goal.shape_of-bytes
shape_of-bytes c = c.loop-j.invariant.1

pub returns : goal.returns
returns c =
    let e : c.loop-j.j ≡ length c.args.bytes.now = omega (arith, c.loop-j.invariant.1) in
    c.loop-j.invariant.2 ∙ ap (λ n. replicate n 0 ++ drop n c.args.bytes.now) e ∙ all-gone c.args.bytes.now
