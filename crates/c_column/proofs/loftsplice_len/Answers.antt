-- `loftsplice_len` meets its contract. Assumes nothing.
use Rattle.loftsplice.specs.Says.{says_length}
use Rattle.c_column.specs.Column.{flat_length}
use Rattle.c_forms.proofs.Carried.{carried}
use Rattle.c_column.proofs.loftsplice_len.Goals as goal

pub returns-in-Is : goal.returns-in-Is
returns-in-Is c = carried says_length flat_length c.len-answer.ensures c.in-Is.is

pub returns-in-Refused : goal.returns-in-Refused
returns-in-Refused c =
    rw c.number.ensures (carried says_length flat_length c.len-answer.ensures c.in-Refused.is)
