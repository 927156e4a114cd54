-- `Filter::new` meets its contract. Assumes nothing.
use Rattle.filter_interval.proofs.FilterCases.{fit-lower, fit-upper, fit-ready}
use Rattle.filter_interval.proofs.Filter.new.Goals as goal

pub returns-then-lows-gt16 : goal.returns-then-lows-gt16
returns-then-lows-gt16 c =
    fit-lower c.args.scan c.args.mode c.args.lower c.args.upper c.if-lows-gt16.true

pub returns-then-ups-gt16 : goal.returns-then-ups-gt16
returns-then-ups-gt16 c =
    fit-upper c.args.scan c.args.mode c.args.lower c.args.upper c.if-lows-gt16.false c.if-ups-gt16.true

pub returns : goal.returns
returns c =
    fit-ready c.args.scan c.args.mode c.args.lower c.args.upper c.if-lows-gt16.false c.if-ups-gt16.false _ _ c.fold-low.ensures c.fold-up.ensures
