-- `checked::off` meets its contract. Assumes nothing.
use Rattle.std.proofs.Common.{ap, ◌∙◌, to_z-of_z}
use Rattle.keys.specs.Key.{key}
use Rattle.keys.specs.Widths.{half64}
use Rattle.checked.proofs.off.Goals as goal

pub returns : goal.returns
returns c = c.wrapping_sub_u64.ensures.value ∙ c.bias.ensures ∙ ap (key half64) (to_z-of_z c.ranges.start)
