-- `codec::signed16` meets its contract. Assumes nothing.
use Rattle.std.proofs.Common.{refl, ◌∙◌, w16}
use Rattle.keys.proofs.Bits.{back}
use Rattle.codec.proofs.Signs.{as-signed}
use Rattle.codec.proofs.signed16.Goals as goal

pub returns : goal.returns
returns c = back w16 _ c.cast_signed.type_inv ∙ c.cast_signed.ensures ∙ as-signed w16 2 refl c.args.x
