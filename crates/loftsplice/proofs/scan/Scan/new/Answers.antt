-- `Scan::new` meets its contract. Assumes nothing.
use Rattle.checked.proofs.Told.{was-fine, was-refused}
use Rattle.loftsplice.proofs.ScanCases.{new-refused, new-ready}
use Rattle.loftsplice.proofs.scan.Scan.new.Goals as goal

pub returns-in-Refused : goal.returns-in-Refused
returns-in-Refused c =
    new-refused _ _ (was-refused _ _ c.check-checked.ensures _ c.in-Refused.is)

pub returns-in-Fine : goal.returns-in-Fine
returns-in-Fine c =
    new-ready _ _ (was-fine _ _ c.check-checked.ensures c.in-Fine.is) c.end_before-end.ensures
