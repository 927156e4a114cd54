-- `totalling::decimal::from_below` writes the text of a low less a size of a high. Assumes nothing.
use Prim.Native.Nat.{◌+◌, ◌-◌, ◌*◌, ◌/◌, ◌%◌}
use mathlib.Core.Path.{◌∙◌}
use native.Mathlib.Omega.{arith}
use Rattle.totalling.proofs.Signs.{over, under}
use Rattle.totalling.proofs.decimal.from_below.Goals as goal

pub returns-then-size-carry : goal.returns-then-size-carry
returns-then-size-carry c =
    let a = c.args in
    let s = c.spell in
    record {
      upper_bound = s.ensures.result_nonzero.1;
      out_after = s.ensures.out_after ∙ over a.size a.low (omega arith);
      out_unchanged = s.ensures.out_unchanged;
    }

pub returns-then-rest-eq0 : goal.returns-then-rest-eq0
returns-then-rest-eq0 c =
    let a = c.args in
    let b = c.below_zero in
    record {
      upper_bound = b.ensures.upper_bound;
      out_after = b.ensures.out_after ∙ under a.size a.low ((a.size - a.low / 4294967296) * 4294967296 + 0) (omega arith);
      out_unchanged = b.ensures.out_unchanged;
    }

pub returns : goal.returns
returns c =
    let a = c.args in
    let b = c.below_zero-2 in
    let n = (a.size - a.low / 4294967296 - 1) * 4294967296 + (4294967296 - a.low % 4294967296) in
    record {
      upper_bound = b.ensures.upper_bound;
      out_after = b.ensures.out_after ∙ under a.size a.low n (omega arith);
      out_unchanged = b.ensures.out_unchanged;
    }
