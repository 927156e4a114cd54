-- `keys::bias` meets its contract. Assumes nothing.
use Rattle.std.proofs.Common.{arith, ◌∙◌}
use Rattle.std.proofs.Math.Facts.{to_z-of_z}
use Rattle.keys.proofs.Keys.{key-apart}
use Rattle.keys.proofs.bias.Goals as goal

pub returns : goal.returns
returns c = rw (to_z-of_z c.ranges.x) at c.abs_diff.ensures ∙ key-apart 9223372036854775807 c.args.x (omega arith)
