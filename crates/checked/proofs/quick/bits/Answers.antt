-- `checked::bits` meets its contract. Assumes nothing.
use Rattle.std.proofs.Common.{ℕ, ◌+◌, ◌%◌, ap, ◌∙◌, to_z-of_z}
use Rattle.keys.specs.Key.{key}
use Rattle.keys.specs.Widths.{half64}
use Rattle.checked.proofs.quick.bits.Goals as goal

pub returns : goal.returns
returns c =
    c.wrapping_add_u64.ensures.value
    ∙ ap (λ (n : ℕ). (n + 9223372036854775808) % 18446744073709551616) (c.bias.ensures ∙ ap (key half64) (to_z-of_z c.ranges.x))
