-- `loftsplice_scan_new` meets its contract. Assumes nothing.
use Rattle.loftsplice.specs.Scan.{says_made}
use Rattle.c_scan.specs.Scan.{flat_new_scan}
use Rattle.c_forms.proofs.Carried.{carried}
use Rattle.c_scan.proofs.loftsplice_scan_new.Goals as goal

pub returns-in-Ready : goal.returns-in-Ready
returns-in-Ready c =
    rw c.flat_scan.ensures (carried says_made flat_new_scan c.new-made.ensures c.in-Ready.is)

pub returns-in-Refused : goal.returns-in-Refused
returns-in-Refused c =
    rw (c.no_scan.ensures, c.number.ensures) (carried says_made flat_new_scan c.new-made.ensures c.in-Refused.is)
