-- `loftsplice_check` meets its contract. Assumes nothing.
use Rattle.checked.specs.Says.{says_checked}
use Rattle.c_forms.specs.Flat.{refusal_in}
use Rattle.c_forms.proofs.Carried.{carried}
use Rattle.c_column.proofs.loftsplice_check.Goals as goal

pub returns-in-Fine : goal.returns-in-Fine
returns-in-Fine c = carried says_checked refusal_in c.check-checked.ensures c.in-Fine.is

pub returns-in-Refused : goal.returns-in-Refused
returns-in-Refused c =
    rw c.number.ensures (carried says_checked refusal_in c.check-checked.ensures c.in-Refused.is)
