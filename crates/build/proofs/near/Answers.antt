-- `near` meets its contract: the difference of the patterns, and 32,768 more, either of which may wrap. Assumes nothing.
use Rattle.std.proofs.Common.{◌+◌, ◌%◌, sym, ap, ◌∙◌, to_z-of_z}
use Rattle.codec.specs.Bytes.{of_signed}
use Rattle.build.proofs.Steps.{step-near}
use Rattle.build.proofs.near.Goals as goal

pub returns : goal.returns
returns c =
    let w = ap (λ n. (c.wrapping_sub_u64-difference.result + n) % 18446744073709551616) (ap (of_signed 8) (sym (to_z-of_z c.ranges.previous)) ∙ sym c.unsigned64-2.ensures)
    ∙ c.wrapping_sub_u64-difference.ensures.value ∙ c.unsigned64.ensures ∙ ap (of_signed 8) (to_z-of_z c.ranges.current) in
    step-near c.args.previous c.args.current c.ranges.previous.sfits c.ranges.current.sfits c.wrapping_sub_u64-difference.result c.wrapping_sub_u64-difference.type_inv
    w c.wrapping_add_u64.result c.wrapping_add_u64.ensures.value
