-- `sifting::too_many` meets its contract. Assumes nothing.
use Rattle.filter_interval.proofs.FilterCases.{many-lower, many-upper, many-inputs}
use Rattle.filter_interval.proofs.sifting.too_many.Goals as goal

pub returns-then-lows-gt16 : goal.returns-then-lows-gt16
returns-then-lows-gt16 c =
    many-lower c.args.lows c.args.ups c.args.ins c.if-lows-gt16.true

pub returns-then-ups-gt16 : goal.returns-then-ups-gt16
returns-then-ups-gt16 c =
    many-upper c.args.lows c.args.ups c.args.ins c.if-lows-gt16.false c.if-ups-gt16.true

pub returns : goal.returns
returns c =
    many-inputs c.args.lows c.args.ups c.args.ins c.if-lows-gt16.false c.if-ups-gt16.false
