-- `summing::unbias` meets its contract. Assumes nothing.
use Rattle.totals.proofs.Bits.{unbias-low, unbias-high}
use Rattle.totals.proofs.summing.unbias.Goals as goal

pub returns-then-k-lt9223372036854775808 : goal.returns-then-k-lt9223372036854775808
returns-then-k-lt9223372036854775808 c = unbias-low c.args.k c.if-k-lt9223372036854775808.true

pub returns-else-k-lt9223372036854775808 : goal.returns-else-k-lt9223372036854775808
returns-else-k-lt9223372036854775808 c = unbias-high c.args.k c.if-k-lt9223372036854775808.false c.ranges.k.fits
