-- `Scan::pos` meets its contract. Assumes nothing.
use Rattle.loftsplice.proofs.ScanCases.{pos-refused, pos-is}
use Rattle.loftsplice.proofs.scan.Scan.pos.Goals as goal

pub returns-in-Refused : goal.returns-in-Refused
returns-in-Refused c =
    pos-refused _ c.args.self _ c.check_scan-stand.ensures.checked_value _ c.in-Refused.is

pub returns-in-Fresh : goal.returns-in-Fresh
returns-in-Fresh c =
    pos-is _ c.args.self _ c.check_scan-stand.ensures.checked_value c.in-Fine.is _ c.in-Fresh.is

pub returns-in-At : goal.returns-in-At
returns-in-At c =
    pos-is _ c.args.self _ c.check_scan-stand.ensures.checked_value c.in-Fine.is _ c.in-At.is

pub returns-in-Ended : goal.returns-in-Ended
returns-in-Ended c =
    pos-is _ c.args.self _ c.check_scan-stand.ensures.checked_value c.in-Fine.is _ c.in-Ended.is
