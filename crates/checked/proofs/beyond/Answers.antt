-- `checked::beyond` meets its contract. Assumes nothing.
use Rattle.std.proofs.Common.{◌≡◌, ◌+◌, ◌%◌, arith}
use Rattle.checked.proofs.beyond.Goals as goal

pub returns : goal.returns
returns c = λ low small.
    let a = c.before.before in
    let first : (c.wrapping_sub_u64.result + a.args.low) % 18446744073709551616 ≡ a.args.end = c.wrapping_sub_u64.ensures.value in
    let second : (c.wrapping_sub_u64-2.result + 1) % 18446744073709551616 ≡ c.wrapping_sub_u64.result = c.wrapping_sub_u64-2.ensures.value in
    omega (arith, first, second, low, small)
