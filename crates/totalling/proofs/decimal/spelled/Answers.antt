-- `totalling::decimal::spelled` writes the text of a sum. Assumes nothing.
use Rattle.std.proofs.Common.{ap, ◌∙◌, arith}
use mir.Facts.{to_z-of_z}
use Rattle.keys.specs.Key.{key}
use Rattle.keys.specs.Widths.{half64}
use Rattle.totalling.proofs.Signs.{worth-up, worth-down}
use Rattle.totalling.proofs.decimal.spelled.Goals as goal

pub returns-then-key-lt9223372036854775808 : goal.returns-then-key-lt9223372036854775808
returns-then-key-lt9223372036854775808 c =
    let a = c.args in
    let b = c.from_below in record {
      upper_bound = (b.ensures.upper_bound, omega arith);
      out_after = b.ensures.out_after ∙ worth-down a.high a.low c.bias-key.result c.ranges.high.sfits (c.bias-key.ensures ∙ ap (key half64) (to_z-of_z c.ranges.high)) (omega arith);
      out_unchanged = b.ensures.out_unchanged;
    }

pub returns : goal.returns
returns c =
    let a = c.args in
    let s = c.spell in record {
      upper_bound = (s.ensures.result_nonzero.1, omega arith);
      out_after = s.ensures.out_after ∙ worth-up a.high a.low c.bias-key.result (c.bias-key.ensures ∙ ap (key half64) (to_z-of_z c.ranges.high)) (omega arith);
      out_unchanged = s.ensures.out_unchanged;
    }
