-- `flat::flat_sifted` meets its contract. Assumes nothing.

use Rattle.c_filter.proofs.flat.flat_sifted.Goals as goal

pub returns-in-Refused : goal.returns-in-Refused
returns-in-Refused c = rw (c.flat_answer-told.ensures, c.in-Refused.is)

pub returns-in-Value : goal.returns-in-Value
returns-in-Value c = rw (c.flat_answer-told.ensures, c.flat_filter.ensures, c.in-Value.is)

pub returns-in-None : goal.returns-in-None
returns-in-None c = rw (c.flat_answer-told.ensures, c.flat_filter-in-None.ensures, c.in-None.is)
