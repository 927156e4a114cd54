-- `loftsplice_is_empty` meets its contract. Assumes nothing.
use Rattle.loftsplice.specs.Says.{says_emptiness}
use Rattle.c_column.specs.Column.{flat_emptiness}
use Rattle.c_forms.proofs.Carried.{carried}
use Rattle.c_column.proofs.loftsplice_is_empty.Goals as goal

pub returns-in-Empty : goal.returns-in-Empty
returns-in-Empty c = carried says_emptiness flat_emptiness c.is_empty-answer.ensures c.in-Empty.is

pub returns-in-Held : goal.returns-in-Held
returns-in-Held c = carried says_emptiness flat_emptiness c.is_empty-answer.ensures c.in-Held.is

pub returns-in-Refused : goal.returns-in-Refused
returns-in-Refused c =
    rw c.number.ensures (carried says_emptiness flat_emptiness c.is_empty-answer.ensures c.in-Refused.is)
