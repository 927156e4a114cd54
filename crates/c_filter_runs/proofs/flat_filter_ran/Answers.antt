-- `flat_filter_ran` meets its contract. Assumes nothing.

use Rattle.c_filter_runs.proofs.flat_filter_ran.Goals as goal

pub returns-in-Values : goal.returns-in-Values
returns-in-Values c = rw (c.flat_filter.ensures, c.in-Values.is)

pub returns-in-Refused : goal.returns-in-Refused
returns-in-Refused c = rw (c.number.ensures, c.in-Refused.is)
