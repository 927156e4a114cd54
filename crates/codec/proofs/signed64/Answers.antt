-- `codec::signed64` meets its contract. Assumes nothing.
use Rattle.std.proofs.Common.{refl, ◌∙◌, w64}
use Rattle.keys.proofs.Bits.{back}
use Rattle.codec.proofs.Signs.{as-signed}
use Rattle.codec.proofs.signed64.Goals as goal

pub returns : goal.returns
returns c = back w64 _ c.cast_signed.type_inv ∙ c.cast_signed.ensures ∙ as-signed w64 8 refl c.args.x
