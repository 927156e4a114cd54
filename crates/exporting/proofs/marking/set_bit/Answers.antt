-- `marking::set_bit` meets its contract: a mask of one bit. Assumes nothing.
use native.Mathlib.Omega.{arith}
use lib.Bits.{mask_lt}
use Rattle.exporting.proofs.Marks.{mark-shifted}
use Rattle.exporting.proofs.marking.set_bit.Goals as goal

pub overflow_cast-bytes : goal.overflow_cast-bytes
overflow_cast-bytes c = record { fits = omega (arith, mask_lt c.args.at 3) }

pub overflow_shl-bytes : goal.overflow_shl-bytes
overflow_shl-bytes c = omega (arith, mask_lt c.args.at 3)

pub returns : goal.returns
returns c = mark-shifted c.args.bytes.now c.args.at (omega arith)
