-- `codec::unsigned16` meets its contract. Assumes nothing.
use Rattle.std.proofs.Common.{refl, ◌∙◌, w16}
use Rattle.codec.proofs.Signs.{argument-unsigned}
use Rattle.codec.proofs.unsigned16.Goals as goal

pub returns : goal.returns
returns c = c.cast_unsigned.ensures ∙ argument-unsigned w16 2 refl c.args.v c.ranges.v
