-- `codec::unsigned64` meets its contract. Assumes nothing.
use Rattle.std.proofs.Common.{refl, ◌∙◌, w64}
use Rattle.codec.proofs.Signs.{argument-unsigned}
use Rattle.codec.proofs.unsigned64.Goals as goal

pub returns : goal.returns
returns c = c.cast_unsigned.ensures ∙ argument-unsigned w64 8 refl c.args.v c.ranges.v
