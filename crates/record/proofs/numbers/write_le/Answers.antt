-- `record::numbers::write_le` meets its contract. The loop's invariant says what remains: the bytes of the rest, stored from at + i on, are all. Assumes nothing.
use mathlib.Core.Path.{◌≡◌, refl}
use Prim.Native.Nat.{suc, ◌+◌, ◌-◌}
use native.Mathlib.Omega.{arith}
use native.Mathlib.Nat.{add-zero, sub-zero}
use lib.ListN.{length-set}
use Rattle.codec.specs.Bytes.{le_bytes}
use Rattle.record.proofs.numbers.write_le.Goals as goal

pub loop-i-init : goal.loop-i-init
loop-i-init c = (omega arith, rw (add-zero, sub-zero), refl)

pub loop-i-preserved : goal.loop-i-preserved
unfolding le_bytes
loop-i-preserved c =
    let l = c.loop-i in
    let a = c.args in
    let next : a.at + (l.i + 1) ≡ suc (a.at + l.i) = omega arith in
    let more : a.n - l.i ≡ suc (a.n - (l.i + 1)) = omega arith in
    (omega arith, rw next (rw more at l.invariant.1), simp length-set l.invariant.2)

pub returns : goal.returns
unfolding le_bytes
returns c =
    let z : c.args.n - c.loop-i.i ≡ 0 = omega arith in
    rw z at c.loop-i.invariant.1
