-- `totalling::decimal::below_zero` writes a minus and the digits. Assumes nothing.
use native.Mathlib.Omega.{arith}
use Rattle.totalling.proofs.Signs.{minus, before-minus}
use Rattle.totalling.proofs.decimal.below_zero.Goals as goal

pub returns : goal.returns
returns c =
    let s = c.spell-first in
    let out = s.new.out in record {
      upper_bound = omega arith;
      out_after = minus _ s.result out (omega arith) (omega arith) (omega arith) (omega arith) s.ensures.out_after;
      out_unchanged = before-minus s.result _ out (omega arith) s.ensures.out_unchanged;
    }
