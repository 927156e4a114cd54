-- `is_present` meets its contract. Assumes nothing.
use Rattle.std.proofs.Common.{rules}
use Rattle.std.proofs.lemmas.Nat.Bits.{shr_and_one}
use Rattle.bits.specs.Bitmap.{present, is_set}
use Rattle.bits.proofs.is_present.Goals as goal

pub returns : goal.returns
unfolding present is_set
returns c = search (rules, shr_and_one)
