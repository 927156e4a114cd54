-- `marking::set_steps` meets its contract: the first k are marked. Assumes nothing.
use Prim.Native.Nat.{ℕ, ◌+◌, ◌*◌}
use mathlib.Core.Path.{◌≡◌, refl, ap, ◌∙◌}
use native.Mathlib.Omega.{arith}
use lib.Dec.{eqb}
use Rattle.ranges.specs.Ranges.{all_for}
use Rattle.recorded.specs.Inner.{in_steps}
use Rattle.exporting.proofs.Marks.{mark-none, mark-step, mark-as, next-at, last-at}
use Rattle.exporting.proofs.marking.set_steps.Goals as goal

pub loop-k-init : goal.loop-k-init
unfolding all_for
loop-k-init c = (omega arith, omega arith, mark-none c.args.bytes.now (in_steps c.args.start c.args.step 0) (λ i. refl))

pub set_bit-requires : goal.set_bit-requires
set_bit-requires c =
    omega (arith, last-at c.args.start c.args.step c.loop-k.k c.args.n c.loop-k-test.true, c.loop-k.invariant.2.long)

pub overflow_add-at : goal.overflow_add-at
overflow_add-at c =
    record { fits = omega (arith, last-at c.args.start c.args.step c.loop-k.k c.args.n c.loop-k-test.true) }

pub loop-k-preserved : goal.loop-k-preserved
loop-k-preserved c = (
  omega arith,
  ap (λ (x : ℕ). x + c.args.step) c.loop-k.invariant.1 ∙ next-at c.args.start c.args.step c.loop-k.k,
  mark-step c.args.start c.args.step c.loop-k.k c.loop-k.invariant.2
      (mark-as (λ i. eqb i (c.args.start + c.args.step * c.loop-k.k)) c.set_bit.ensures (λ i. ap (eqb i) c.loop-k.invariant.1)),
)

pub returns : goal.returns
returns c = let e : c.loop-k.k ≡ c.args.n = omega arith in rw e at c.loop-k.invariant.2
