-- `sifting::ask` meets its contract. Assumes nothing.
use Rattle.filter_interval.proofs.sifting.ask.Goals as goal

pub returns-in-Before : goal.returns-in-Before
returns-in-Before c = rw c.in-Before.is c.begin.ensures

pub returns-in-Within : goal.returns-in-Within
returns-in-Within c = rw c.in-Within.is

pub returns-in-After : goal.returns-in-After
returns-in-After c = rw c.in-After.is
