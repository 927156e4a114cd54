-- `listing::too_wide` meets its contract. Assumes nothing.
use Rattle.std.proofs.Common.{le-ltb, lt-ltb}
use Rattle.loftsplice.proofs.listing.too_wide.Goals as goal

pub returns-then-lows-gt16 : goal.returns-then-lows-gt16
returns-then-lows-gt16 c = rw (lt-ltb 16 c.args.lows c.if-lows-gt16.true)

pub returns-then-ups-gt16 : goal.returns-then-ups-gt16
returns-then-ups-gt16 c = rw (le-ltb 16 c.args.lows c.if-lows-gt16.false, lt-ltb 16 c.args.ups c.if-ups-gt16.true)

pub returns-then-windows-gt256 : goal.returns-then-windows-gt256
returns-then-windows-gt256 c =
    let a = c.args in
    rw (le-ltb 16 a.lows c.if-lows-gt16.false, le-ltb 16 a.ups c.if-ups-gt16.false, lt-ltb 256 a.windows c.if-windows-gt256.true)

pub returns : goal.returns
returns c =
    let a = c.args in
    rw (le-ltb 16 a.lows c.if-lows-gt16.false, le-ltb 16 a.ups c.if-ups-gt16.false, le-ltb 256 a.windows c.if-windows-gt256.false)
