-- `loftsplice_place` meets its contract. Assumes nothing.
use Rattle.loftsplice.specs.Says.{says_placed}
use Rattle.c_column.specs.Column.{flat_place}
use Rattle.c_forms.proofs.Carried.{carried}
use Rattle.c_column.proofs.loftsplice_place.Goals as goal

pub returns-in-At : goal.returns-in-At
returns-in-At c = carried says_placed flat_place c.place-answer.ensures c.in-At.is

pub returns-in-Refused : goal.returns-in-Refused
returns-in-Refused c =
    rw c.number.ensures (carried says_placed flat_place c.place-answer.ensures c.in-Refused.is)
